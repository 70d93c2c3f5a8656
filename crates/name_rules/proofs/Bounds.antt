-- How far the candidates are asked: each that is passed over is a forbidden name, and they are all different.
use Rattle.std.specs.List.{list_any}
use Rattle.std.specs.Prelude.{◌≡◌, ◌⊎◌, ◌≤◌, ◌<◌, ℕ, zero, suc, ◌+◌, ◌^◌, Bool, true, false, cond, not, ◌||◌, ◌&&◌, nat_eq, List, [], ◌∷◌, ◌++◌, length, map, filter, get_or, is_some, Option, Some, None}
use Rattle.std.proofs.Common.{refl, sym, ap, ◌∙◌, subst, arith, inl, inr}
use Rattle.std.proofs.lemmas.Bool.{or_cases, and_parts, both_ways, eq-eqb, eqb-true}
use Rattle.std.proofs.lemmas.List.{length-append, length-map, length-reverse}
use Rattle.list_laws.proofs.AllOf.{of_each}
use Rattle.list_laws.proofs.AnyOf.{any_some}
use Rattle.list_laws.proofs.Counting.{no_more}
use Rattle.list_laws.proofs.Filtered.{filter_most, two_filters_most}
use Rattle.list_laws.proofs.Members.{In, in_from_Contains, from_map, in_filter, in_left, in_map, in_right, found_at}
use Rattle.list_laws.proofs.PairsOf.{different_map}
use Rattle.syntax_lex.specs.Keyword.{is_reserved_keyword, reserved_keywords}
use Rattle.tree_nodes.specs.Along.{Along, all, each, first_column, other_columns}
use Rattle.tree_nodes.specs.Table.{row, unlisted}
use Rattle.tree_nodes.specs.Tree.{Parts, Text, atom, child, done, many}
use Rattle.tree_nodes.specs.declared.table.Opens.{Opens}
use Rattle.tree_nodes.specs.declared.table.Opens.TheVariants.{Nothing}
use Rattle.tree_places.proofs.Numbers.{Numbered, walk_numbered}
use Rattle.tree_nodes.specs.NodeCount.{nodes_in}
use Rattle.tree_places.specs.Places.{Around, Place, Seen, Setting, Site, at_field, before_all, enter, hide, met, named_by, names, nothing_yet, places, seen, sites, walk}
use Rattle.tree_places.specs.Scopes.{Scope}
use Rattle.scope_rules.proofs.PlacesRise.{one_of_number}
use Rattle.scope_rules.proofs.SameNames.{same_name_tells, among_in, in_distinct, distinct_after_most}
use Rattle.scope_rules.specs.Bindings.{is_node, node, same_name}
use Rattle.scope_rules.specs.Evals.{name_eval}
use Rattle.scope_rules.specs.Homes.{home}
use Rattle.scope_rules.specs.PrivateNames.{distinct}
use Rattle.name_rules.proofs.CountFrom.{count_length}
use Rattle.name_rules.proofs.FirstUntaken.{candidate_one, free_different, free_names_length, passed, passed_different, passed_taken}
use Rattle.name_rules.proofs.GivenNamesFit.{given_name_in, given_names_fit, slot_names_in}
use Rattle.name_rules.proofs.Greatest.{greatest_at_most}
use Rattle.name_rules.proofs.GroupsInOrder.{slots_are_fewest}
use Rattle.name_rules.proofs.Mangling.{changed_all, from_leading, slot_name_of}
use Rattle.name_rules.proofs.Rivals.{Led, groups_differ, led}
use Rattle.name_rules.proofs.SlotNamesKeepApart.{Placed, members_at}
use Rattle.name_rules.specs.Bounds.{BoundIsSmall, ChangedNamesAreBounded, NamesAreBounded, candidate_limit, forbidden}
use Rattle.name_rules.specs.FreeNames.{first_untaken, is_taken, is_unchanged, is_variable}
use Rattle.name_rules.specs.GivenNames.{count_from, free_names, names_of_slots, slot_names}
use Rattle.name_rules.specs.Groups.{Group, Member, greatest_width, group_led_by, groups_of, is_live, leads, members, width}
use Rattle.name_rules.specs.Kept.{is_reserved, name_arguments}
use Rattle.name_rules.specs.Open.{all_open}
use Rattle.name_rules.specs.Options.{Options}
use Rattle.name_rules.specs.ShortNames.{candidate}
use Rattle.name_rules.specs.Shortest.{changed_names}
use Rattle.name_rules.specs.Slots.{number_of_slots, slots_of, weight}

-- ---- what is taken is forbidden

taken_forbidden : (o : Options) (ms : List Member) (x : Text) → is_taken o ms x ≡ true → In x (forbidden o ms)
unfolding all_open
taken_forbidden o ms x h = first (or_cases _ _ h)
  where
    kept_names : List Text
    kept_names = map (λ (m : Member). m.place.name) (filter is_unchanged ms)

    past : In x (name_eval ∷ name_arguments ∷ (o.reserved ++ map (λ (m : Member). m.place.name) (filter is_unchanged ms))) → In x (forbidden o ms)
    past i = in_right reserved_keywords (name_eval ∷ name_arguments ∷ (o.reserved ++ map (λ (m : Member). m.place.name) (filter is_unchanged ms))) x i

    reserved : (same_name x name_arguments ≡ true) ⊎ (list_any (same_name x) o.reserved ≡ true) → In x (forbidden o ms)
    reserved (inl e) = past (inr (inl (sym ((same_name_tells x name_arguments).0 e))))
    reserved (inr e) = past (inr (inr (in_left o.reserved (map (λ (m : Member). m.place.name) (filter is_unchanged ms)) x (among_in o.reserved x e))))

    second : (is_reserved_keyword x ≡ true) ⊎ (same_name x name_eval ≡ true) → In x (forbidden o ms)
    second (inl k) =
        let w : (y : Text) × In y reserved_keywords × (same_name y x ≡ true) = any_some (λ y. same_name y x) reserved_keywords k in
        in_left reserved_keywords (name_eval ∷ name_arguments ∷ (o.reserved ++ map (λ (m : Member). m.place.name) (filter is_unchanged ms))) x (subst (λ (y : Text). In y reserved_keywords) ((same_name_tells w.0 x).0 w.2) w.1)
    second (inr k) = past (inl (sym ((same_name_tells x name_eval).0 k)))

    third : ((is_reserved_keyword x || same_name x name_eval) ≡ true) ⊎ (is_reserved o x ≡ true) → In x (forbidden o ms)
    third (inl e) = second (or_cases _ _ e)
    third (inr e) = reserved (or_cases _ _ e)

    first : ((is_reserved_keyword x || same_name x name_eval || is_reserved o x) ≡ true) ⊎ (list_any (λ m. is_unchanged m && same_name m.place.name x) ms ≡ true) → In x (forbidden o ms)
    first (inl e) = third (or_cases _ _ e)
    first (inr e) =
        let w : (m : Member) × In m ms × ((is_unchanged m && same_name m.place.name x) ≡ true) = any_some (λ m. is_unchanged m && same_name m.place.name x) ms e in
        let two : (is_unchanged w.0 ≡ true) × (same_name w.0.place.name x ≡ true) = and_parts _ _ w.2 in
        past (inr (inr (in_right o.reserved (map (λ (m : Member). m.place.name) (filter is_unchanged ms)) x
        (subst (λ (y : Text). In y (map (λ (m : Member). m.place.name) (filter is_unchanged ms))) ((same_name_tells w.0.place.name x).0 two.1)
        (in_map (λ (m : Member). m.place.name) (filter is_unchanged ms) w.0 (in_filter is_unchanged ms w.0 w.1 two.0))))))

-- ---- numbers of those that are found

module _ (name : ℕ → Text) (one : (m n : ℕ) → name m ≡ name n → m ≡ n) (taken : Text → Bool) where
  pub record Numbered_below (x : Text) (low high : ℕ) : Type 0 where
    pub number : ℕ
    pub is : x ≡ name number
    pub from : low ≤ number
    pub below : number < high

  pub found_below : (fuel n k : ℕ) (x : Text) → In x (first_untaken name taken fuel n k) → Numbered_below x k (k + n + length (passed name one taken fuel n k))
  unfolding all_open passed
  found_below zero n k x i = absurd i
  found_below (suc fuel) zero k x i = absurd i
  found_below (suc fuel) (suc n) k x i = go (taken (name k)) i (found_below fuel (suc n) (suc k) x) (found_below fuel n (suc k) x)
    where
      go : (b : Bool) → In x (elim b as (λ c. List Text) [ true ↦ first_untaken name taken fuel (suc n) (suc k) | false ↦ name k ∷ first_untaken name taken fuel n (suc k) ])
          → (In x (first_untaken name taken fuel (suc n) (suc k)) → Numbered_below x (suc k) (suc k + suc n + length (passed name one taken fuel (suc n) (suc k))))
          → (In x (first_untaken name taken fuel n (suc k)) → Numbered_below x (suc k) (suc k + n + length (passed name one taken fuel n (suc k))))
          → Numbered_below x k (k + suc n + length (cond b (name k ∷ passed name one taken fuel (suc n) (suc k)) (passed name one taken fuel n (suc k))))
      go true j ih jh =
          let r : Numbered_below x (suc k) (suc k + suc n + length (passed name one taken fuel (suc n) (suc k))) = ih j in
          let a : suc k ≤ r.number = r.from in
          let b : r.number < suc k + suc n + length (passed name one taken fuel (suc n) (suc k)) = r.below in
          record { number = r.number; is = r.is; from = omega (arith, a); below = omega (arith, b) }
      go false (inl e) ih jh = record { number = k; is = sym e; from = omega arith; below = omega arith }
      go false (inr j) ih jh =
          let r : Numbered_below x (suc k) (suc k + n + length (passed name one taken fuel n (suc k))) = jh j in
          let a : suc k ≤ r.number = r.from in
          let b : r.number < suc k + n + length (passed name one taken fuel n (suc k)) = r.below in
          record { number = r.number; is = r.is; from = omega (arith, a); below = omega (arith, b) }

-- a name that a slot gets is free
pub name_free : (o : Options) (t : Parts) (x : Text) → In x (names_of_slots o t) → In x (free_names o (members o t) (number_of_slots (slots_of o t)))
unfolding all_open
name_free o t x i =
    let n : ℕ = number_of_slots (slots_of o t) in
    let free : List Text = free_names o (members o t) n in
    let weights : List ℕ = map (weight (members o t) (slots_of o t)) (count_from n 0) in
    let long : length weights ≡ n = length-map (count_from n 0) (weight (members o t) (slots_of o t)) ∙ count_length n 0 in
    let w : (k : ℕ) × (k < length (slot_names free weights)) × (get_or (slot_names free weights) k [] ≡ x) = found_at (slot_names free weights) x [] i in
    let as_long : length (slot_names free weights) ≡ length weights = length-map (count_from (length weights) 0) _ ∙ count_length (length weights) 0 in
    subst (λ (y : Text). In y free) w.2
    (slot_names_in free weights (free_different o (members o t) n) (free_names_length o (members o t) n ∙ sym long) w.0 (subst (λ (m : ℕ). w.0 < m) as_long w.1))

number_is_within : (r n v l : ℕ) → r < 0 + n + v → v ≤ l → r < n + l
number_is_within r n v l h k = omega (arith, h, k)

abbrev IsBounded : Options → Parts → Text → Type 0
IsBounded o t x = (n : ℕ) × (x ≡ candidate o.readable n) × (n < candidate_limit o t)

free_bounded : (o : Options) (t : Parts) (x : Text) → In x (free_names o (members o t) (number_of_slots (slots_of o t))) → IsBounded o t x
unfolding all_open
free_bounded o t x i =
    let ms : List Member = members o t in
    let n : ℕ = number_of_slots (slots_of o t) in
    let fuel : ℕ = n + 48 + length o.reserved + length ms in
    let over : List Text = passed (candidate o.readable) (candidate_one o.readable) (is_taken o ms) fuel n 0 in
    let r : Numbered_below (candidate o.readable) (candidate_one o.readable) (is_taken o ms) x 0 (0 + n + length over) =
    found_below (candidate o.readable) (candidate_one o.readable) (is_taken o ms) fuel n 0 x i in
    let few : length over ≤ length (distinct (forbidden o ms)) = no_more same_name same_name_tells over (distinct (forbidden o ms)) (passed_different (candidate o.readable) (candidate_one o.readable) (is_taken o ms) fuel n 0)
    (λ y i. in_distinct (forbidden o ms) y (taken_forbidden o ms y (of_each (λ z. is_taken o ms z ≡ true) over y (passed_taken (candidate o.readable) (candidate_one o.readable) (is_taken o ms) fuel n 0) i))) in
    let b : r.number < 0 + n + length over = r.below in
    (r.number, r.is, number_is_within r.number n (length over) (length (distinct (forbidden o ms))) b few)

pub names_are_bounded : NamesAreBounded
names_are_bounded o t x c = free_bounded o t x (name_free o t x (in_from_Contains (names_of_slots o t) x c))

pub changed_names_are_bounded : ChangedNamesAreBounded
changed_names_are_bounded o t u has x c =
    of_each (IsBounded o t) (changed_names o t u) x
    (changed_all o t u has (IsBounded o t) (λ p g i e.
    let d : Placed o t (λ k. get_or (names_of_slots o t) k []) has.rooted (given_names_fit o t) p g = slot_name_of o t u has p g i e in
    free_bounded o t (get_or (names_of_slots o t) d.slotted.slot []) (given_name_in o t d.slotted.slot d.below)))
    (in_from_Contains (changed_names o t u) x c)

-- ---- how many

in_all : (d f k r l n m : ℕ) → d ≤ f → f ≡ k + r → k ≡ 46 → r ≡ suc (suc l) → l ≡ n + m → d ≤ 48 + n + m
in_all d f k r l n m a b c e g = omega (arith, a, b, c, e, g)

how_many : length reserved_keywords ≡ 46
unfolding all_open
how_many = refl

forbidden_most : (o : Options) (ms : List Member) → length (distinct (forbidden o ms)) ≤ 48 + length o.reserved + length (filter is_unchanged ms)
unfolding all_open
forbidden_most o ms =
    let names : List Text = map (λ (m : Member). m.place.name) (filter is_unchanged ms) in
    let rest : List Text = name_eval ∷ name_arguments ∷ (o.reserved ++ names) in
    in_all (length (distinct (forbidden o ms))) (length (forbidden o ms)) (length reserved_keywords) (length rest) (length (o.reserved ++ names)) (length o.reserved) (length (filter is_unchanged ms))
    (distinct_after_most [] (forbidden o ms)) (length-append reserved_keywords rest) how_many refl
    (length-append o.reserved names ∙ ap (λ (k : ℕ). length o.reserved + k) (length-map (filter is_unchanged ms) (λ (m : Member). m.place.name)))

-- a tree has no more slots than groups, and no more groups than places that lead one
groups_most : (o : Options) (t : Parts) → length (groups_of o t) ≤ length (filter leads (members o t))
unfolding all_open
groups_most o t =
    let gs : List Group = groups_of o t in
    let ls : List Member = filter leads (members o t) in
    let few : length (map (λ (g : Group). g.leader) gs) ≤ length (map (λ (m : Member). node m.place) ls) =
    no_more nat_eq (λ x y. (eqb-true x y, eq-eqb x y)) (map (λ (g : Group). g.leader) gs) (map (λ (m : Member). node m.place) ls)
    (different_map (λ (g : Group). g.leader) gs (groups_differ o t) one)
    (λ n i.
    let g : (g : Group) × In g gs × (g.leader ≡ n) = from_map (λ (g : Group). g.leader) gs n i in
    let m : (m : Member) × In m (members o t) × (leads m ≡ true) × (group_led_by m ≡ g.0) = from_leading _ (members o t) g.0 g.1 in
    subst (λ (k : ℕ). In k (map (λ (m : Member). node m.place) ls)) (ap (λ (x : Group). x.leader) m.3 ∙ g.2)
    (in_map (λ (m : Member). node m.place) ls m.0 (in_filter leads (members o t) m.0 m.1 m.2))) in
    let a : length (map (λ (g : Group). g.leader) gs) ≡ length gs = length-map gs (λ (g : Group). g.leader) in
    let b : length (map (λ (m : Member). node m.place) ls) ≡ length ls = length-map ls (λ (m : Member). node m.place) in
    omega (arith, few, a, b)
  where
    one : (g h : Group) → In g (groups_of o t) → In h (groups_of o t) → g.leader ≡ h.leader → g ≡ h
    one g h i j e =
        let a : Led o t g = led o t g i in
        let b : Led o t h = led o t h j in
        let q : a.leader ≡ b.leader = one_of_number t a.leader b.leader (in_from_Contains (places t) a.leader a.is.among) (in_from_Contains (places t) b.leader b.is.among) (sym a.number ∙ e ∙ b.number) in
        ap (λ (k : ℕ). record { leader = k; home = g.home }) e ∙ ap (λ (z : Scope). record { leader = h.leader; home = z }) (a.homed ∙ ap (λ (x : Place). home x.site) q ∙ sym b.homed)

slots_most : (o : Options) (t : Parts) → number_of_slots (slots_of o t) ≤ length (filter leads (members o t))
unfolding all_open
slots_most o t =
    let a : number_of_slots (slots_of o t) ≡ greatest_width o t = slots_are_fewest o t in
    let b : greatest_width o t ≤ length (groups_of o t) = greatest_at_most (width (members o t) (groups_of o t)) _ (length (groups_of o t)) (λ s. filter_most (is_live (members o t) s) (groups_of o t)) in
    let c : length (groups_of o t) ≤ length (filter leads (members o t)) = groups_most o t in
    omega (arith, a, b, c)

leads_changed : (m : Member) → leads m ≡ true → is_unchanged m ≡ false
unfolding all_open
leads_changed m h = go m.group (and_parts _ _ h).1
  where
    go : (g : Option ℕ) → is_node g (node m.place) ≡ true → (is_variable m && not (is_some g)) ≡ false
    go None e = absurd (both_ways false refl e)
    go (Some n) e = at (is_variable m)
      where
        at : (b : Bool) → (b && false) ≡ false
        at true = refl
        at false = refl

-- ---- no more places than nodes

met_nodes : (k : Opens) (b : ℕ) (e : Setting) (inner : Scope) (s : Seen) → (met k b e inner s).nodes ≡ suc s.nodes
unfolding all_open
met_nodes Nothing b e inner s = refl
met_nodes _ b e inner s = refl

walk_nodes : (x : Parts) (columns : Along) (a : Around) (s : Seen) → (walk x columns a s).nodes ≡ nodes_in x + s.nodes
unfolding all_open
walk_nodes done columns a s = omega arith
walk_nodes (atom v more) columns a s = walk_nodes more (other_columns columns) a s
walk_nodes (many items more) columns a s =
    let h : (walk items (all (first_column columns)) a s).nodes ≡ nodes_in items + s.nodes = walk_nodes items (all (first_column columns)) a s in
    let k : (walk more (other_columns columns) a (walk items (all (first_column columns)) a s)).nodes ≡ nodes_in more + (walk items (all (first_column columns)) a s).nodes = walk_nodes more (other_columns columns) a (walk items (all (first_column columns)) a s) in
    omega (arith, h, k)
walk_nodes (child k b e fields more) columns a s =
    let here : Setting = at_field (first_column columns) a in
    let around : Around = enter (row k) (hide k fields) here s in
    let s₁ : Seen = met (row k).opens b here around.inside.scope s in
    let s₂ : Seen = walk fields (each (row k).columns) around s₁ in
    let h : s₁.nodes ≡ suc s.nodes = met_nodes (row k).opens b here around.inside.scope s in
    let i : s₂.nodes ≡ nodes_in fields + s₁.nodes = walk_nodes fields (each (row k).columns) around s₁ in
    let j : (walk more (other_columns columns) a s₂).nodes ≡ nodes_in more + s₂.nodes = walk_nodes more (other_columns columns) a s₂ in
    omega (arith, h, i, j)

sites_most : (n : ℕ) (ss : List Site) → Numbered n ss → length ss ≤ n
unfolding all_open
sites_most n [] p = omega arith
sites_most n (s ∷ ss) p = let h : s.node < n = p.0 in let i : length ss ≤ s.node = sites_most s.node ss p.1 in omega (arith, h, i)

named_most : (ss : List Site) (xs : List Text) → length (named_by ss xs) ≤ length ss
unfolding all_open
named_most [] xs = none xs
  where
    none : (ys : List Text) → length (named_by [] ys) ≤ 0
    none [] = omega arith
    none (y ∷ ys) = omega arith
named_most (s ∷ ss) [] = omega arith
named_most (s ∷ ss) (x ∷ xs) = let h : length (named_by ss xs) ≤ length ss = named_most ss xs in omega (arith, h)

members_most : (o : Options) (t : Parts) → length (members o t) ≤ nodes_in t
unfolding all_open
members_most o t =
    let a : length (members o t) ≡ length (places t) = ap length (members_at o t) ∙ length-map (places t) _ in
    let b : length (places t) ≤ length (sites t) = named_most (sites t) (names t) in
    let c : length (sites t) ≡ length (seen t).sites = length-reverse (seen t).sites in
    let d : length (seen t).sites ≤ (seen t).nodes = sites_most (seen t).nodes (seen t).sites (walk_numbered t (all unlisted) before_all nothing_yet tt) in
    let e : (seen t).nodes ≡ nodes_in t + 0 = walk_nodes t (all unlisted) before_all nothing_yet in
    omega (arith, a, b, c, d, e)

below_all : (n l f r u m k : ℕ) → n ≤ l → f ≤ 48 + r + u → l + u ≤ m → m ≤ k → k + r < 2 ^ 30 → n + f < 2 ^ 31
below_all n l f r u m k a b c d h = omega (arith, a, b, c, d, h)

pub bound_is_small : BoundIsSmall
unfolding all_open
bound_is_small o t h =
    let ms : List Member = members o t in
    below_all (number_of_slots (slots_of o t)) (length (filter leads ms)) (length (distinct (forbidden o ms))) (length o.reserved) (length (filter is_unchanged ms)) (length ms) (nodes_in t)
    (slots_most o t) (forbidden_most o ms) (two_filters_most leads is_unchanged ms leads_changed) (members_most o t) h
