use Rattle.std.specs.Prelude.{◌≡◌, ◌<◌, length}
use Rattle.std.proofs.Common.{sym, ◌∙◌}
use Rattle.name_rules.specs.PrivateNumbers.{number_in}
use Rattle.scope_rules.specs.PrivateNames.{private_names}
use Rattle.tree_places.specs.Places.{places}
use Rattle.private_numbers.proofs.Numbered.{number_told}
use Rattle.private_numbers.proofs.laws.class_numbers_differ.Goals as goal

pub returns : goal.returns
returns c = λ t p among a b outside_a outside_b closed_a closed_b i j k e f.
    let u : (i < length (private_names (places t) a)) × (number_in (places t) outside_a i ≡ k) = number_told (places t) a outside_a i k closed_a.closed e in
    let v : (j < length (private_names (places t) b)) × (number_in (places t) outside_b j ≡ k) = number_told (places t) b outside_b j k closed_b.closed f in
    c.private_numbers_differ.ensures t p among a b outside_a outside_b closed_a closed_b i j u.0 v.0 (u.1 ∙ sym v.1)
