-- What is live in one scope is live in a home.
use Rattle.std.specs.Prelude.{◌≡◌, ◌⊎◌, true, List}
use Rattle.std.proofs.Common.{subst, inl, inr}
use Rattle.name_rules.proofs.GroupsStandApart.{live_inside, live_outwards}
use Rattle.name_rules.specs.Groups.{Group, Member, is_live}
use Rattle.name_rules.specs.Open.{all_open}
use Rattle.tree_places.proofs.Outwards.{chain, inside_antisym}
use Rattle.tree_places.specs.Scopes.{Scope, is_inside, same_scope}

pub live_up_to_home : (ms : List Member) (g : Group) (s r : Scope) → is_live ms s g ≡ true → is_inside s r ≡ true → is_inside r g.home ≡ true → is_live ms r g ≡ true
unfolding all_open
live_up_to_home ms g s r live i j = live_outwards ms g s r live i j (λ e k. subst (λ (x : Scope). same_scope x g.home ≡ true) (inside_antisym s r i k) e)

pub live_together : (ms : List Member) (g h : Group) (s : Scope) → is_live ms s g ≡ true → is_live ms s h ≡ true → (is_live ms h.home g ≡ true) ⊎ (is_live ms g.home h ≡ true)
unfolding all_open
live_together ms g h s a b =
    let i : is_inside s g.home ≡ true = live_inside ms g s a in
    let j : is_inside s h.home ≡ true = live_inside ms h s b in
    go i j (chain s g.home h.home i j)
  where
    go : is_inside s g.home ≡ true → is_inside s h.home ≡ true → (is_inside g.home h.home ≡ true) ⊎ (is_inside h.home g.home ≡ true) → (is_live ms h.home g ≡ true) ⊎ (is_live ms g.home h ≡ true)
    go i j (inl c) = inr (live_up_to_home ms h s g.home b i c)
    go i j (inr c) = inl (live_up_to_home ms g s h.home a j c)
