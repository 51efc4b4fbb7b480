use Rattle.std.proofs.Common.{◌≤◌, length, length-take-le, sym, ◌∙◌, ap, arith}
use Rattle.dealing.proofs.hands.Hands.len.Goals as goal

pub returns : goal.returns
returns c =
    let within : c.self.inside.workers ≤ length c.self.inside.places = omega (arith, c.self.invariant.0, c.self.invariant.1) in
    sym (length-take-le c.self.inside.workers c.self.inside.places within) ∙ ap length c.self.view_is
