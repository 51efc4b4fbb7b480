-- The operations that lines name.
use Rattle.std.proofs.Common.{◌≡◌, ℕ, ◌+◌, ◌<◌, ◌≤◌, List, [], ◌∷◌, ◌++◌, length, map, take, Bool, true, false, ◌&&◌, ◌||◌, refl, ap, sym, ◌∙◌, arith, append_assoc, length-append}
use Rattle.std.specs.Prelude.{Option, Some, None, nat_le, codes, if◌then◌else◌}
use Rattle.std.specs.List.{filter, flat_map, list_any}
use Rattle.std.specs.Str.{bytes_eq}
use Rattle.text_lines.specs.FirstFault.{IsFaultless}
use Rattle.text_lines.specs.Lines.{lines_of}
use Rattle.text_lines.specs.Words.{words_of}
use Rattle.text_lines.proofs.FaultLemmas.{faultless_push, faultless_nil}
use Rattle.trace_semantics.specs.declared.operation.Op.{Op}
use Rattle.trace_semantics.specs.declared.operation.Op.TheVariants.{Read as ReadOp, Write as WriteOp, Update as UpdateOp}
use Rattle.trace_semantics.specs.declared.trace.Process.{Process}
use Rattle.trace_text.specs.Entry.{op_statement}
use Rattle.trace_text.specs.Gathered.{is_of_process, process_statements}
use Rattle.text_lines.specs.Kept.{is_skipped}
use Rattle.trace_text.specs.References.{is_of, fault_of_references, fault_of_line}
use Rattle.trace_text.specs.Statement.{Unsaid, Untimed, Statement, Init, Final, Proc, Read, Write, Update, Before, untimed_statement, first_said, statement_of}
use Rattle.trace_text.specs.TraceFault.{has_operation, operations_up_to_proc}
use Rattle.trace_text.specs.declared.version.Version.{Version}
use Rattle.trace_text.specs.declared.version.Version.TheVariants.{One, Two, Three}
use Rattle.trace_text.specs.Version.{has_version_2_lines}
use Rattle.trace_text.proofs.LineWords.SaidLemmas.{said_first}

-- what is looked at so far
pub record IsLookedAt (version : Version) (processes : List Process) (text : List ℕ) (next : ℕ) (rest : List ℕ) : Type 0 where
  pub lines : List (List ℕ)
  pub counted : next ≡ length lines + 1
  pub parts : lines_of text ≡ lines ++ lines_of rest
  pub faultless : IsFaultless (λ (before : List (List ℕ)) (here : List ℕ). fault_of_line version processes here) lines
  pub room : next + length rest ≤ length text + 1

pub nothing_looked_at : (version : Version) (processes : List Process) (text : List ℕ) → IsLookedAt version processes text 1 text
nothing_looked_at version processes text = record { lines = []; counted = omega arith; parts = refl; faultless = faultless_nil (λ (before : List (List ℕ)) (here : List ℕ). fault_of_line version processes here); room = omega arith }

pub one_more_looked_at : (version : Version) (processes : List Process) (text : List ℕ) (next : ℕ) (rest line after : List ℕ) → IsLookedAt version processes text next rest → lines_of rest ≡ line ∷ lines_of after → length after < length rest →
    fault_of_line version processes line ≡ None → IsLookedAt version processes text (next + 1) after
one_more_looked_at version processes text next rest line after h e l f = record {
  lines = h.lines ++ line ∷ [];
  counted = omega (arith, h.counted, length-append h.lines (line ∷ []));
  parts = h.parts ∙ ap (λ ls. h.lines ++ ls) e ∙ sym (append_assoc h.lines (line ∷ []) (lines_of after));
  faultless = faultless_push (λ (before : List (List ℕ)) (here : List ℕ). fault_of_line version processes here) h.lines line h.faultless f;
  room = omega (arith, h.room, l);
}

-- the fault of a line, by what its first words say
pub fault_named : (version : Version) (processes : List Process) (line : List ℕ) (s : Statement) → is_skipped (words_of line) ≡ false → Some s ≡ statement_of version (take 11 (words_of line)) → fault_of_line version processes line ≡ fault_of_references processes (Some s)
fault_named version processes line s h e =
    ap (λ b. if b then None else fault_of_references processes (statement_of version (words_of line))) h
    ∙ ap (fault_of_references processes) (sym (said_first version (words_of line)) ∙ sym e)

-- a line that says nothing names no operation
unsaid : (processes : List Process) (b : Bool) (o : Option Statement) → o ≡ None → (if b then None else fault_of_references processes o) ≡ None
unsaid processes true o e = refl
unsaid processes false o e = ap (fault_of_references processes) e

pub fault_unsaid : (version : Version) (processes : List Process) (line : List ℕ) → None ≡ statement_of version (take 11 (words_of line)) → fault_of_line version processes line ≡ None
fault_unsaid version processes line e = unsaid processes (is_skipped (words_of line)) (statement_of version (words_of line)) (sym (said_first version (words_of line)) ∙ sym e)

-- no line of version 1 names an operation
one_form : (processes : List Process) (b : Bool) (s : Statement) (rest : Option Statement) → fault_of_references processes (Some s) ≡ None → fault_of_references processes rest ≡ None → fault_of_references processes (if b then Some s else rest) ≡ None
one_form processes true s rest here there = here
one_form processes false s rest here there = there

plain_words : (processes : List Process) (words : List (List ℕ)) → fault_of_references processes (untimed_statement false words) ≡ None
plain_words processes [] = refl
plain_words processes (a ∷ []) = refl
plain_words processes (a ∷ b ∷ []) = one_form processes (bytes_eq a (codes "proc")) (Proc b) None refl refl
plain_words processes (a ∷ b ∷ c ∷ []) =
    one_form processes (bytes_eq a (codes "init")) (Init b c) _ refl
    (one_form processes (bytes_eq a (codes "final")) (Final b c) _ refl
    (one_form processes (bytes_eq a (codes "R")) (Read b c Unsaid Untimed) _ refl
    (one_form processes (bytes_eq a (codes "W")) (Write b c Untimed) None refl refl)))
plain_words processes (a ∷ b ∷ c ∷ d ∷ []) = one_form processes (bytes_eq a (codes "U")) (Update b c d Unsaid Untimed) None refl refl
plain_words processes (a ∷ b ∷ c ∷ d ∷ e ∷ []) = refl
plain_words processes (a ∷ b ∷ c ∷ d ∷ e ∷ f ∷ []) = refl
plain_words processes (a ∷ b ∷ c ∷ d ∷ e ∷ f ∷ g ∷ []) = refl
plain_words processes (a ∷ b ∷ c ∷ d ∷ e ∷ f ∷ g ∷ h ∷ ws) = refl

alone : (o : Option Statement) → first_said o None ≡ o
alone None = refl
alone (Some s) = refl

plain_line : (processes : List Process) (line : List ℕ) (b : Bool) → (if b then None else fault_of_references processes (statement_of One (words_of line))) ≡ None
plain_line processes line true = refl
plain_line processes line false = ap (fault_of_references processes) (alone (untimed_statement false (words_of line))) ∙ plain_words processes (words_of line)

pub none_named : (version : Version) (processes : List Process) (text : List ℕ) → has_version_2_lines version ≡ false → IsFaultless (λ (before : List (List ℕ)) (here : List ℕ). fault_of_line version processes here) (lines_of text)
none_named One processes text h before line after e = plain_line processes line (is_skipped (words_of line))
none_named Two processes text h before line after e = absurd (cc)
none_named Three processes text h before line after e = absurd (cc)

-- only lines of processes count
up_to_filtered : (ss : List Statement) → operations_up_to_proc ss ≡ operations_up_to_proc (filter is_of_process ss)
up_to_filtered [] = refl
up_to_filtered (Init a d ∷ ss) = up_to_filtered ss
up_to_filtered (Final a d ∷ ss) = up_to_filtered ss
up_to_filtered (Proc name ∷ ss) = refl
up_to_filtered (Read a d source times ∷ ss) = ap (λ n. 1 + n) (up_to_filtered ss)
up_to_filtered (Write a d times ∷ ss) = ap (λ n. 1 + n) (up_to_filtered ss)
up_to_filtered (Update a d e source times ∷ ss) = ap (λ n. 1 + n) (up_to_filtered ss)
up_to_filtered (Before p i q j ∷ ss) = up_to_filtered ss

has_filtered : (ss : List Statement) (process : List ℕ) (place : ℕ) → has_operation ss process place ≡ has_operation (filter is_of_process ss) process place
has_filtered [] process place = refl
has_filtered (Init a d ∷ ss) process place = has_filtered ss process place
has_filtered (Final a d ∷ ss) process place = has_filtered ss process place
has_filtered (Proc name ∷ ss) process place = λ i. (bytes_eq name process && nat_le place (up_to_filtered ss i)) || has_filtered ss process place i
has_filtered (Read a d source times ∷ ss) process place = has_filtered ss process place
has_filtered (Write a d times ∷ ss) process place = has_filtered ss process place
has_filtered (Update a d e source times ∷ ss) process place = has_filtered ss process place
has_filtered (Before p i q j ∷ ss) process place = has_filtered ss process place

up_to_none : (ps : List Process) → operations_up_to_proc (flat_map process_statements ps) ≡ 0
up_to_none [] = refl
up_to_none (p ∷ ps) = refl

up_to_all : (ops : List Op) (ps : List Process) → operations_up_to_proc (map op_statement ops ++ flat_map process_statements ps) ≡ length ops
up_to_all [] ps = up_to_none ps
up_to_all (ReadOp a d o span ∷ ops) ps = omega (arith, up_to_all ops ps)
up_to_all (WriteOp a d span ∷ ops) ps = omega (arith, up_to_all ops ps)
up_to_all (UpdateOp a d e o span ∷ ops) ps = omega (arith, up_to_all ops ps)

has_behind : (ops : List Op) (ss : List Statement) (process : List ℕ) (place : ℕ) → has_operation (map op_statement ops ++ ss) process place ≡ has_operation ss process place
has_behind [] ss process place = refl
has_behind (ReadOp a d o span ∷ ops) ss process place = has_behind ops ss process place
has_behind (WriteOp a d span ∷ ops) ss process place = has_behind ops ss process place
has_behind (UpdateOp a d e o span ∷ ops) ss process place = has_behind ops ss process place

has_listed : (ps : List Process) (process : List ℕ) (place : ℕ) → has_operation (flat_map process_statements ps) process place ≡ list_any (is_of process place) ps
has_listed [] process place = refl
has_listed (p ∷ ps) process place =
    λ i. (bytes_eq p.name process && nat_le place (up_to_all p.operations ps i)) || (has_behind p.operations (flat_map process_statements ps) process place ∙ has_listed ps process place) i

-- statements have an operation where their processes have it
pub has_operation-listed : (ss : List Statement) (ps : List Process) (process : List ℕ) (place : ℕ) → filter is_of_process ss ≡ flat_map process_statements ps → has_operation ss process place ≡ list_any (is_of process place) ps
has_operation-listed ss ps process place h = has_filtered ss process place ∙ ap (λ l. has_operation l process place) h ∙ has_listed ps process place
