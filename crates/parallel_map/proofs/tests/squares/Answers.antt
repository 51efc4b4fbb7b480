use Rattle.std.proofs.Common.{◌≡◌, ◌*◌, ◌%◌, ◌^◌, subst}
use Rattle.parallel_map.proofs.CallerLemmas.{all_are}
use Rattle.parallel_map.proofs.tests.squares.Goals as goal

pub returns : goal.returns
returns g c =
    all_are c.args.numbers.now c.map_by_workers.result _ (λ x y. y ≡ x * x % 2 ^ 64) c.map_by_workers.ensures
    (λ x y so. subst (λ n. y ≡ n * n % 2 ^ 64) so.shows so.says.met)
