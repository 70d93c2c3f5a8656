use Rattle.std.proofs.Common.{◌∷◌, List, ℕ, subst}
use Rattle.std.specs.Fmt.{WritesOnOk}
use Rattle.oxc_str.proofs.Showing.{surrogate_hex}
use Rattle.oxc_str.proofs.js_str_display.write_escape.Goals as goal

pub returns : goal.returns
returns g c =
    let written = rw (c.in_radix.ensures, c.laid_out.ensures) at c.write.ensures.writes in
    subst (λ (digits : List ℕ). WritesOnOk g.W.Write.write_str_gives c.args.f.now c.write.result (92 ∷ 117 ∷ digits) c.write.new.self) (surrogate_hex c.args.unit c.requires) written
