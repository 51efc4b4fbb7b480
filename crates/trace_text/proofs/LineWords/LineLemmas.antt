-- A line of a trace text, by its first words.
use Rattle.std.proofs.Common.{◌≡◌, ℕ, ◌+◌, ◌<◌, ◌≤◌, List, [], ◌∷◌, ◌++◌, length, take, map, Bool, true, false, cond, not, refl, inl, ap, sym, ◌∙◌, arith, subst, append_assoc, append-nil, length-append}
use Rattle.std.specs.Prelude.{Some, None, if◌then◌else◌}
use Rattle.std.specs.Cmp.Lexicographic.{pointwise}
use Rattle.std.specs.List.{filter, list_any}
use Rattle.std.specs.Str.{bytes_eq}
use Rattle.std.proofs.lemmas.List.{map-append}
use Rattle.std.proofs.lemmas.List.Elements.{filter-append}
use Rattle.std.proofs.lemmas.Slice.Eq.{bytes_eq-Decides, slice_eq-Decides}
use Rattle.text_lines.specs.Fault.{IsRefusal}
use Rattle.text_lines.specs.FirstFault.{IsFaultless}
use Rattle.text_lines.specs.Lines.{lines_of}
use Rattle.text_lines.specs.Words.{words_of}
use Rattle.text_lines.proofs.FaultLemmas.{faultless_push, faultless_nil}
use Rattle.trace_text.specs.declared.trace_fault.TraceCause.{TraceCause}
use Rattle.trace_text.specs.declared.trace_fault.TraceCause.TheVariants.{NotAscii, Header}
use Rattle.text_lines.specs.declared.plain_fault.PlainFault.{PlainFault}
use Rattle.text_lines.specs.declared.plain_fault.PlainFault.TheVariants.{OutOfMemory, For}
use Rattle.trace_text.specs.declared.trace_reader.TraceReader.{TraceReader}
use Rattle.trace_text.specs.Header.{IsHeaderLine}
use Rattle.text_lines.specs.Kept.{is_skipped, kept}
use Rattle.trace_text.specs.Progress.{IsProgress}
use Rattle.trace_text.specs.Read.{saying, AreSaid, TakesLine, TakesWords, HasHeader}
use Rattle.text_lines.specs.PlainFault.{IsRefusedFor, fault_at}
use Rattle.trace_text.specs.Statement.{Statement, statement_of, words_for}
use Rattle.trace_text.specs.TraceFault.{trace_line_fault, words_fault, said_fault, statement_fault, statements_of, is_header, version_of, is_high, HasTraceFault}
use Rattle.trace_text.specs.TraceText.{header_line}
use Rattle.trace_text.proofs.LineWords.SaidLemmas.{said_first, words_said, statements_said}
use Rattle.trace_text.specs.declared.version.Version.{Version}
use Rattle.trace_text.specs.declared.version.Version.TheVariants.{One, Two, Three}
use Rattle.trace_text.specs.Version.{limits_of}

-- the first words suffice to see whether a line is skipped
pub skipped_first : (words : List (List ℕ)) → is_skipped (take 11 words) ≡ is_skipped words
skipped_first [] = refl
skipped_first (w ∷ ws) = refl

-- the kept lines with one more
kept_by : (b : Bool) (words : List (List ℕ)) → cond (not b) (words ∷ []) [] ≡ (if b then [] else words ∷ [])
kept_by true words = refl
kept_by false words = refl

kept_of : (words : List (List ℕ)) (b : Bool) → is_skipped words ≡ b → filter (λ ws. not (is_skipped ws)) (words ∷ []) ≡ (if b then [] else words ∷ [])
kept_of words b e = ap (λ c. cond (not c) (words ∷ []) []) e ∙ kept_by b words

pub kept_more : (before : List (List ℕ)) (line : List ℕ) (b : Bool) → is_skipped (words_of line) ≡ b → kept (before ++ line ∷ []) ≡ kept before ++ (if b then [] else words_of line ∷ [])
kept_more before line b e =
    ap (filter (λ ws. not (is_skipped ws))) (map-append words_of before (line ∷ []))
    ∙ filter-append (λ ws. not (is_skipped ws)) (map words_of before) (words_of line ∷ [])
    ∙ ap (λ t. kept before ++ t) (kept_of (words_of line) b e)

-- the fault of a line that is kept and ASCII is that of its words
pub line_fault : (before : List (List ℕ)) (line : List ℕ) → is_skipped (words_of line) ≡ false → list_any is_high line ≡ false → trace_line_fault before line ≡ words_fault (kept before) (words_of line)
line_fault before line s h =
    ap (λ b. if b then None else if list_any is_high line then Some NotAscii else words_fault (kept before) (words_of line)) s
    ∙ ap (λ b. if b then Some NotAscii else words_fault (kept before) (words_of line)) h

pub version_is : (version : Version) → version_of (header_line version) ≡ version
version_is One = refl
version_is Two = refl
version_is Three = refl

-- the fault of words after statements
pub fault_said : (version : Version) (before : List (List ℕ)) (ss : List Statement) (words : List (List ℕ)) → AreSaid version before ss → words_fault (kept before) words ≡ said_fault (limits_of version) ss (statement_of version words)
fault_said version before ss words a =
    ap (λ k. words_fault k words) a.kept_lines
    ∙ ap (λ (v : Version). said_fault (limits_of v) (statements_of v (map words_for ss)) (statement_of v words)) (version_is version)
    ∙ ap (λ l. said_fault (limits_of version) l (statement_of version words)) (statements_said version ss a.said)

-- a line is refused by its first words
pub line_refused : (version : Version) (before : List (List ℕ)) (ss : List Statement) (line : List ℕ) (refusal : PlainFault TraceCause) → AreSaid version before ss → is_skipped (words_of line) ≡ false → list_any is_high line ≡ false →
    IsRefusedFor (said_fault (limits_of version) ss (statement_of version (take 11 (words_of line)))) refusal → IsRefusedFor (trace_line_fault before line) refusal
line_refused version before ss line refusal a s h r = subst (λ f. IsRefusedFor f refusal)
    (ap (said_fault (limits_of version) ss) (said_first version (words_of line)) ∙ sym (fault_said version before ss (words_of line) a) ∙ sym (line_fault before line s h)) r

-- a line is taken by its first words
pub line_taken : (version : Version) (before : List (List ℕ)) (ss : List Statement) (line : List ℕ) (new : TraceReader) → AreSaid version before ss → is_skipped (words_of line) ≡ false → list_any is_high line ≡ false →
    TakesWords version ss (take 11 (words_of line)) new → TakesLine version before line new
line_taken version before ss line new a s h t =
    let says : statement_of version (words_of line) ≡ Some t.s = sym (said_first version (words_of line)) ∙ t.says in
    let words : words_of line ≡ words_for t.s = words_said version (words_of line) t.s says in
    record {
      faultless = line_fault before line s h ∙ fault_said version before ss (words_of line) a ∙ ap (said_fault (limits_of version) ss) says ∙ t.faultless;
      ss = ss ++ t.s ∷ [];
      said = record {
        kept_lines = kept_more before line false s ∙ (λ i. a.kept_lines i ++ words i ∷ []) ∙ ap (λ l. header_line version ∷ l) (sym (map-append words_for ss (t.s ∷ [])));
        said = map-append (saying version) ss (t.s ∷ []) ∙ (λ i. a.said i ++ (ap (statement_of version) (sym words) ∙ says) i ∷ []) ∙ sym (map-append Some ss (t.s ∷ []));
        faultless = faultless_push (statement_fault (limits_of version)) ss t.s a.faultless t.faultless;
      };
      progress = t.progress;
    }

-- what is read so far, of which this is left
pub record IsReadSoFar (text : List ℕ) (version : Version) (next : ℕ) (rest : List ℕ) (reader : TraceReader) : Type 0 where
  pub lines : List (List ℕ)
  pub ss : List Statement
  pub counted : next ≡ length lines + 1
  pub parts : lines_of text ≡ lines ++ lines_of rest
  pub faultless : IsFaultless trace_line_fault lines
  pub said : AreSaid version lines ss
  pub progress : IsProgress (limits_of version) ss reader
  pub room : next + length rest ≤ length text + 1

pub one_more_line : (text : List ℕ) (version : Version) (next : ℕ) (rest : List ℕ) (old new : TraceReader) (line after : List ℕ) (so_far : IsReadSoFar text version next rest old) → lines_of rest ≡ line ∷ lines_of after → length after < length rest →
    TakesLine version so_far.lines line new → IsReadSoFar text version (next + 1) after new
one_more_line text version next rest old new line after so_far e l t = record {
  lines = so_far.lines ++ line ∷ [];
  ss = t.ss;
  counted = omega (arith, so_far.counted, length-append so_far.lines (line ∷ []));
  parts = so_far.parts ∙ ap (λ ls. so_far.lines ++ ls) e ∙ sym (append_assoc so_far.lines (line ∷ []) (lines_of after));
  faultless = faultless_push trace_line_fault so_far.lines line so_far.faultless t.faultless;
  said = t.said;
  progress = t.progress;
  room = omega (arith, so_far.room, l);
}

-- a fault at a line after lines that have none
pub fault_here : (text : List ℕ) (next : ℕ) (lines : List (List ℕ)) (rest line after : List ℕ) (refusal : PlainFault TraceCause) → next ≡ length lines + 1 → lines_of text ≡ lines ++ lines_of rest → IsFaultless trace_line_fault lines → lines_of rest ≡ line ∷ lines_of after →
    IsRefusedFor (trace_line_fault lines line) refusal → IsRefusal (HasTraceFault text) (fault_at refusal next)
fault_here text next lines rest line after OutOfMemory n p f e r = tt
fault_here text next lines rest line after (For cause) n p f e r = inl (record {
  before = lines;
  item = line;
  after = lines_of after;
  parts = p ∙ ap (λ ls. lines ++ ls) e;
  counted = n;
  faulty = r;
  first = f;
})

pub refused_at : (text : List ℕ) (version : Version) (next : ℕ) (rest : List ℕ) (reader : TraceReader) (line after : List ℕ) (refusal : PlainFault TraceCause) (so_far : IsReadSoFar text version next rest reader) → lines_of rest ≡ line ∷ lines_of after →
    IsRefusedFor (trace_line_fault so_far.lines line) refusal → IsRefusal (HasTraceFault text) (fault_at refusal next)
refused_at text version next rest reader line after refusal so_far e r = fault_here text next so_far.lines rest line after refusal so_far.counted so_far.parts so_far.faultless e r

-- the header is read
pub header_read : (text : List ℕ) (version : Version) (next : ℕ) (rest : List ℕ) (reader : TraceReader) → HasHeader text version rest next → IsProgress (limits_of version) [] reader → IsReadSoFar text version next rest reader
header_read text version next rest reader h p = record {
  lines = h.lines;
  ss = [];
  counted = h.counted;
  parts = h.parts;
  faultless = h.faultless;
  said = record { kept_lines = h.header; said = refl; faultless = faultless_nil (statement_fault (limits_of version)) };
  progress = p;
  room = h.room;
}

-- the words are those of a text's header where the test says so
pub pointwise_pair : (words texts : List (List ℕ)) → pointwise bytes_eq words texts ≡ true → words ≡ texts
pointwise_pair words texts h = (slice_eq-Decides bytes_eq-Decides words texts true (sym h)).0 refl

pub header_passes : (version : Version) → is_header (header_line version) ≡ true
header_passes One = refl
header_passes Two = refl
header_passes Three = refl

header_unskipped : (version : Version) → is_skipped (header_line version) ≡ false
header_unskipped One = refl
header_unskipped Two = refl
header_unskipped Three = refl

-- what is read before the header
pub record IsBeforeHeader (text : List ℕ) (next : ℕ) (rest : List ℕ) : Type 0 where
  pub lines : List (List ℕ)
  pub counted : next ≡ length lines + 1
  pub parts : lines_of text ≡ lines ++ lines_of rest
  pub faultless : IsFaultless trace_line_fault lines
  pub none : kept lines ≡ []
  pub room : next + length rest ≤ length text + 1

pub nothing_read : (text : List ℕ) → IsBeforeHeader text 1 text
nothing_read text = record { lines = []; counted = omega arith; parts = refl; faultless = faultless_nil trace_line_fault; none = refl; room = omega arith }

pub skipped_line : (text : List ℕ) (next : ℕ) (rest line after : List ℕ) → IsBeforeHeader text next rest → lines_of rest ≡ line ∷ lines_of after → length after < length rest → is_skipped (words_of line) ≡ true → IsBeforeHeader text (next + 1) after
skipped_line text next rest line after b e l s = record {
  lines = b.lines ++ line ∷ [];
  counted = omega (arith, b.counted, length-append b.lines (line ∷ []));
  parts = b.parts ∙ ap (λ ls. b.lines ++ ls) e ∙ sym (append_assoc b.lines (line ∷ []) (lines_of after));
  faultless = faultless_push trace_line_fault b.lines line b.faultless (ap (λ c. if c then None else if list_any is_high line then Some NotAscii else words_fault (kept b.lines) (words_of line)) s);
  none = kept_more b.lines line true s ∙ append-nil (kept b.lines) ∙ b.none;
  room = omega (arith, b.room, l);
}

pub header_line_read : (text : List ℕ) (next : ℕ) (rest line after : List ℕ) (version : Version) → IsBeforeHeader text next rest → lines_of rest ≡ line ∷ lines_of after → length after < length rest → IsHeaderLine line version → HasHeader text version after (next + 1)
header_line_read text next rest line after version b e l h =
    let unskipped : is_skipped (words_of line) ≡ false = ap is_skipped h.words ∙ header_unskipped version in
    record {
      lines = b.lines ++ line ∷ [];
      counted = omega (arith, b.counted, length-append b.lines (line ∷ []));
      parts = b.parts ∙ ap (λ ls. b.lines ++ ls) e ∙ sym (append_assoc b.lines (line ∷ []) (lines_of after));
      faultless = faultless_push trace_line_fault b.lines line b.faultless
          (line_fault b.lines line unskipped h.low ∙ (λ i. words_fault (b.none i) (h.words i)) ∙ ap (λ c. if c then None else Some Header) (header_passes version));
      header = kept_more b.lines line false unskipped ∙ (λ i. b.none i ++ h.words i ∷ []);
      room = omega (arith, b.room, l);
    }
