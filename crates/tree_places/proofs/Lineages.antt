-- What the walk counts on its way is what the lineages say.
use Rattle.std.specs.Prelude.{◌≡◌, ℕ, suc, ◌+◌, ◌<◌, ◌≤◌, Bool, true, false, cond, nat_lt, List, [], ◌∷◌, ◌++◌, length, map, reverse}
use Rattle.std.proofs.Common.{refl, sym, ap, ◌∙◌, arith}
use Rattle.std.proofs.lemmas.Grind.{reverse_onto}
use Rattle.std.proofs.lemmas.List.{length-append, append_assoc, append-nil, reverse-reverse}
use Rattle.list_laws.proofs.AllOf.{AllOf, AllOf_append, AllOf_weaken}
use Rattle.list_laws.proofs.Mapped.{map_reverse}
use Rattle.tree_nodes.specs.Along.{Along, all, each, first_column, other_columns}
use Rattle.tree_nodes.specs.Table.{Column, row, unlisted}
use Rattle.tree_nodes.specs.Tree.{Parts, atom, child, done, many}
use Rattle.tree_nodes.specs.declared.table.Mark.{Mark}
use Rattle.tree_nodes.specs.declared.table.Mark.TheVariants.{Body, Usual}
use Rattle.tree_nodes.specs.declared.table.Opens.{Opens}
use Rattle.tree_nodes.specs.declared.table.Opens.TheVariants.{BareBlock, Block, ClassMembers, Hoisting, NameHere, Nothing, PrivateNameHere, WithBody}
use Rattle.tree_places.proofs.MarkedSettings.{mark_keeps_scope, mark_keeps_var_scope}
use Rattle.tree_nodes.specs.NodeCount.{nodes_in}
use Rattle.tree_places.specs.Lineage.{Found, Line, Lineage, ancestor, at_side, found, found_by, is_bare, lines, lines_of, openers, openers_of, opens_scope, scope_by, scope_number, var_scope_by}
use Rattle.tree_places.specs.Open.{all_open}
use Rattle.tree_places.specs.Places.{Around, Seen, Setting, at_field, before_all, enter, hide, is_place, met, nothing_yet, opened, seen, side, sites, strict_in, walk, with_mark}
use Rattle.tree_places.specs.Scopes.{Scope}

-- ---- how many of the opening nodes come before a node

abbrev Below : ℕ → List ℕ → Type 0
Below n xs = AllOf (λ m. m < n) xs

abbrev From : ℕ → List ℕ → Type 0
From n xs = AllOf (λ m. n ≤ m) xs

below_counted : (n : ℕ) (xs ys : List ℕ) → Below n xs → From n ys → scope_number (xs ++ ys) n ≡ length xs
unfolding all_open
below_counted n [] [] a b = refl
below_counted n [] (y ∷ ys) a b = rw (no y b.0) (below_counted n [] ys tt b.1)
  where
    no : (m : ℕ) → n ≤ m → nat_lt m n ≡ false
    no m h = grind (arith, h)
below_counted n (x ∷ xs) ys a b = rw (yes x a.0) (ap suc (below_counted n xs ys a.1 b))
  where
    yes : (m : ℕ) → m < n → nat_lt m n ≡ true
    yes m h = grind (arith, h)

-- the numbers of the opening nodes of a run lie between the nodes before it and after
openers_from : (x : Parts) (columns : Along) (n : ℕ) → From n (openers x columns n)
unfolding all_open
openers_from done columns n = tt
openers_from (atom v more) columns n = openers_from more (other_columns columns) n
openers_from (many items more) columns n =
    AllOf_append (λ m. n ≤ m) (openers items (all (first_column columns)) n) (openers more (other_columns columns) (nodes_in items + n))
    (openers_from items (all (first_column columns)) n)
    (AllOf_weaken (λ m. nodes_in items + n ≤ m) (λ m. n ≤ m) (λ m h. omega (arith, h)) (openers more (other_columns columns) (nodes_in items + n)) (openers_from more (other_columns columns) (nodes_in items + n)))
openers_from (child k s e fields more) columns n =
    let fs : List ℕ = openers fields (each (row k).columns) (suc n) in
    let ms : List ℕ = openers more (other_columns columns) (suc (nodes_in fields) + n) in
    go (opens_scope (row k).opens (is_bare (first_column columns).mark))
    (AllOf_append (λ m. n ≤ m) fs ms
    (AllOf_weaken (λ m. suc n ≤ m) (λ m. n ≤ m) (λ m h. omega (arith, h)) fs (openers_from fields (each (row k).columns) (suc n)))
    (AllOf_weaken (λ m. suc (nodes_in fields) + n ≤ m) (λ m. n ≤ m) (λ m h. omega (arith, h)) ms (openers_from more (other_columns columns) (suc (nodes_in fields) + n))))
  where
    go : (b : Bool) → From n (openers fields (each (row k).columns) (suc n) ++ openers more (other_columns columns) (suc (nodes_in fields) + n))
        → From n (cond b (n ∷ []) [] ++ (openers fields (each (row k).columns) (suc n) ++ openers more (other_columns columns) (suc (nodes_in fields) + n)))
    go true a = (omega arith, a)
    go false a = a

openers_below : (x : Parts) (columns : Along) (n : ℕ) → Below (nodes_in x + n) (openers x columns n)
unfolding all_open
openers_below done columns n = tt
openers_below (atom v more) columns n = openers_below more (other_columns columns) n
openers_below (many items more) columns n =
    AllOf_append (λ m. m < (nodes_in items + nodes_in more) + n) (openers items (all (first_column columns)) n) (openers more (other_columns columns) (nodes_in items + n))
    (AllOf_weaken (λ m. m < nodes_in items + n) (λ m. m < (nodes_in items + nodes_in more) + n) (λ m h. omega (arith, h)) (openers items (all (first_column columns)) n) (openers_below items (all (first_column columns)) n))
    (AllOf_weaken (λ m. m < nodes_in more + (nodes_in items + n)) (λ m. m < (nodes_in items + nodes_in more) + n) (λ m h. omega (arith, h)) (openers more (other_columns columns) (nodes_in items + n)) (openers_below more (other_columns columns) (nodes_in items + n)))
openers_below (child k s e fields more) columns n =
    let last : ℕ = suc (nodes_in fields + nodes_in more) + n in
    let fs : List ℕ = openers fields (each (row k).columns) (suc n) in
    let ms : List ℕ = openers more (other_columns columns) (suc (nodes_in fields) + n) in
    go (opens_scope (row k).opens (is_bare (first_column columns).mark))
    (AllOf_append (λ m. m < last) fs ms
    (AllOf_weaken (λ m. m < nodes_in fields + suc n) (λ m. m < last) (λ m h. omega (arith, h)) fs (openers_below fields (each (row k).columns) (suc n)))
    (AllOf_weaken (λ m. m < nodes_in more + (suc (nodes_in fields) + n)) (λ m. m < last) (λ m h. omega (arith, h)) ms (openers_below more (other_columns columns) (suc (nodes_in fields) + n))))
  where
    go : (b : Bool) → Below (suc (nodes_in fields + nodes_in more) + n) (openers fields (each (row k).columns) (suc n) ++ openers more (other_columns columns) (suc (nodes_in fields) + n))
        → Below (suc (nodes_in fields + nodes_in more) + n) (cond b (n ∷ []) [] ++ (openers fields (each (row k).columns) (suc n) ++ openers more (other_columns columns) (suc (nodes_in fields) + n)))
    go true a = (omega arith, a)
    go false a = a

-- ---- what holds inside a node

pub record Fits (whole : List ℕ) (e : Setting) (l : Lineage) : Type 0 where
  pub scope : e.scope ≡ scope_by whole l
  pub var_scope : e.var_scope ≡ var_scope_by whole l

mark_bare : (k : Mark) (fields : Parts) (n : ℕ) (o : List ℕ) (e : Setting) → e.bare ≡ false → (with_mark k fields n o e).bare ≡ is_bare k
unfolding all_open
mark_bare Body fields n o e h = refl
mark_bare Usual fields n o e h = h
mark_bare _ fields n o e h = h

side_fits : (b : Bool) (whole : List ℕ) (a : Around) (outer inner : Lineage) → Fits whole a.outside outer → Fits whole a.inside inner → Fits whole (side b a) (at_side b outer inner)
unfolding all_open
side_fits true whole a outer inner f g = g
side_fits false whole a outer inner f g = f

field_fits : (f : Column) (whole : List ℕ) (a : Around) (outer inner : Lineage) → Fits whole a.outside outer → Fits whole a.inside inner → Fits whole (at_field f a) (at_side f.inside outer inner)
unfolding all_open
field_fits f whole a outer inner p q =
    let s : Fits whole (side f.inside a) (at_side f.inside outer inner) = side_fits f.inside whole a outer inner p q in
    record { scope = rw (mark_keeps_scope f.mark) s.scope; var_scope = rw (mark_keeps_var_scope f.mark) s.var_scope }

pub field_bare : (f : Column) (a : Around) → (at_field f a).bare ≡ is_bare f.mark
unfolding all_open
field_bare f a = mark_bare f.mark a.fields _ _ _ refl

outer_fits : (o : Opens) (bare : Bool) (n : ℕ) (whole : List ℕ) (e : Setting) (l : Lineage) → Fits whole e l → Fits whole e (ancestor n o bare false ∷ l)
unfolding all_open
outer_fits Block bare n whole e l f = record { scope = f.scope; var_scope = f.var_scope }
outer_fits WithBody bare n whole e l f = record { scope = f.scope; var_scope = f.var_scope }
outer_fits Hoisting bare n whole e l f = record { scope = f.scope; var_scope = f.var_scope }
outer_fits BareBlock true n whole e l f = record { scope = f.scope; var_scope = f.var_scope }
outer_fits BareBlock false n whole e l f = record { scope = f.scope; var_scope = f.var_scope }
outer_fits _ bare n whole e l f = record { scope = f.scope; var_scope = f.var_scope }

-- the setting e, and the same with strict code, as it is where the node opens the scope that comes next
inner_fits : (o : Opens) (bare strict : Bool) (b c n : ℕ) (whole : List ℕ) (e : Setting) (l : Lineage) → e.bare ≡ bare → scope_number whole n ≡ b → Fits whole e l
    → Fits whole (opened o b c (record e { strict = strict })) (ancestor n o bare true ∷ l)
unfolding all_open
inner_fits Nothing bare strict b c n whole e l h q f = record { scope = f.scope; var_scope = f.var_scope }
inner_fits Block bare strict b c n whole e l h q f = record { scope = rw (q, f.scope) refl; var_scope = f.var_scope }
inner_fits WithBody bare strict b c n whole e l h q f = record { scope = rw (q, f.scope) refl; var_scope = f.var_scope }
inner_fits Hoisting bare strict b c n whole e l h q f = record { scope = rw (q, f.scope) refl; var_scope = rw (q, f.scope) refl }
inner_fits ClassMembers bare strict b c n whole e l h q f = record { scope = f.scope; var_scope = f.var_scope }
inner_fits NameHere bare strict b c n whole e l h q f = record { scope = f.scope; var_scope = f.var_scope }
inner_fits PrivateNameHere bare strict b c n whole e l h q f = record { scope = f.scope; var_scope = f.var_scope }
inner_fits BareBlock true strict b c n whole e l h q f = rw h (record { scope = f.scope; var_scope = f.var_scope })
inner_fits BareBlock false strict b c n whole e l h q f = rw h (record { scope = rw (q, f.scope) refl; var_scope = f.var_scope })

-- ---- a node is met

met_nodes : (o : Opens) (b : ℕ) (e : Setting) (inner : Scope) (s : Seen) → (met o b e inner s).nodes ≡ suc s.nodes
unfolding all_open
met_nodes Nothing b e inner s = refl
met_nodes _ b e inner s = refl

-- the number of this node, if it opens a scope
abbrev own_opener : Opens → Bool → ℕ → List ℕ
own_opener o bare n = cond (opens_scope o bare) (n ∷ []) []

one_more : (before : List ℕ) (n m : ℕ) → m ≡ length before → suc m ≡ length (before ++ n ∷ [])
one_more before n m h = omega (arith, h, length-append before (n ∷ []))

no_more : (before : List ℕ) (m : ℕ) → m ≡ length before → m ≡ length (before ++ [])
no_more before m h = rw (append-nil before) h

met_scopes : (o : Opens) (b : ℕ) (e : Setting) (inner : Scope) (s : Seen) (bare : Bool) (n : ℕ) (before : List ℕ) → e.bare ≡ bare → length s.scopes ≡ length before
    → length (met o b e inner s).scopes ≡ length (before ++ own_opener o bare n)
unfolding all_open
met_scopes Block b e inner s bare n before q h = one_more before n (length s.scopes) h
met_scopes WithBody b e inner s bare n before q h = one_more before n (length s.scopes) h
met_scopes Hoisting b e inner s bare n before q h = one_more before n (length s.scopes) h
met_scopes BareBlock b e inner s true n before q h = rw q (no_more before (length s.scopes) h)
met_scopes BareBlock b e inner s false n before q h = rw q (one_more before n (length s.scopes) h)
met_scopes _ b e inner s bare n before q h = no_more before (length s.scopes) h

-- the last first, before others
abbrev pub onto : {X : Type 0} → List X → List X → List X
onto [] ys = ys
onto (x ∷ xs) ys = onto xs (x ∷ ys)

abbrev own_line : Opens → ℕ → Lineage → List Line
own_line o n l = cond (is_place o) (record { node = n; lineage = l } ∷ []) []

-- what is found of a node's own place
found_same : (whole : List ℕ) (n b : ℕ) (private : Bool) (e : Setting) (l : Lineage) (m : ℕ) → m ≡ n → Fits whole e l
    → found (record { node = m; start = b; private = private; setting = e }) ≡ found_by whole (record { node = n; lineage = l })
unfolding all_open
found_same whole n b private e l m h f = rw (h, f.scope, f.var_scope) refl

met_sites : (o : Opens) (b : ℕ) (e : Setting) (inner : Scope) (s : Seen) (n : ℕ) (whole : List ℕ) (l : Lineage) → s.nodes ≡ n → Fits whole e l
    → map found (met o b e inner s).sites ≡ onto (map (found_by whole) (own_line o n l)) (map found s.sites)
unfolding all_open
met_sites NameHere b e inner s n whole l h f = ap (λ x. x ∷ map found s.sites) (found_same whole n b false e l s.nodes h f)
met_sites PrivateNameHere b e inner s n whole l h f = ap (λ x. x ∷ map found s.sites) (found_same whole n b true e l s.nodes h f)
met_sites _ b e inner s n whole l h f = refl

-- ---- the walk

pub onto_append : {X Y : Type 0} (f : X → Y) (xs ys : List X) (w : List Y) → onto (map f (xs ++ ys)) w ≡ onto (map f ys) (onto (map f xs) w)
onto_append f [] ys w = refl
onto_append f (x ∷ xs) ys w = onto_append f xs ys (f x ∷ w)

Below_append : (n m : ℕ) (xs ys : List ℕ) → n ≤ m → Below n xs → Below m ys → Below m (xs ++ ys)
unfolding all_open
Below_append n m xs ys h a b = AllOf_append (λ k. k < m) xs ys (AllOf_weaken (λ k. k < n) (λ k. k < m) (λ k i. omega (arith, h, i)) xs a) b

own_below : (o : Opens) (bare : Bool) (n : ℕ) → Below (suc n) (own_opener o bare n)
unfolding all_open
own_below o bare n = go (opens_scope o bare)
  where
    go : (b : Bool) → Below (suc n) (cond b (n ∷ []) [])
    go true = (omega arith, tt)
    go false = tt

regroup : (before own fs ms after : List ℕ) → before ++ ((own ++ (fs ++ ms)) ++ after) ≡ (before ++ own) ++ (fs ++ (ms ++ after))
regroup before own fs ms after =
    ap (λ xs. before ++ xs) (append_assoc own (fs ++ ms) after ∙ ap (λ xs. own ++ xs) (append_assoc fs ms after))
    ∙ sym (append_assoc before own (fs ++ (ms ++ after)))

-- where the walk stands: n nodes and these opening ones are passed
record At (whole before : List ℕ) (n : ℕ) (a : Around) (outer inner : Lineage) (s : Seen) : Type 0 where
  nodes : s.nodes ≡ n
  scopes : length s.scopes ≡ length before
  outside : Fits whole a.outside outer
  inside : Fits whole a.inside inner

-- where it is after a run with these nodes, these opening ones, these places
record After (whole before : List ℕ) (last : ℕ) (opening : List ℕ) (ls : List Line) (s s' : Seen) : Type 0 where
  nodes : s'.nodes ≡ last
  scopes : length s'.scopes ≡ length (before ++ opening)
  sites : map found s'.sites ≡ onto (map (found_by whole) ls) (map found s.sites)

walked : (x : Parts) (columns : Along) (a : Around) (s : Seen) (outer inner : Lineage) (n : ℕ) (whole before after : List ℕ)
    → whole ≡ before ++ (openers x columns n ++ after) → Below n before → From (nodes_in x + n) after → At whole before n a outer inner s
    → After whole before (nodes_in x + n) (openers x columns n) (lines x columns outer inner n) s (walk x columns a s)
unfolding all_open
walked done columns a s outer inner n whole before after e b f at = record { nodes = omega (arith, at.nodes); scopes = no_more before (length s.scopes) at.scopes; sites = refl }
walked (atom v more) columns a s outer inner n whole before after e b f at = walked more (other_columns columns) a s outer inner n whole before after e b f at
walked (many items more) columns a s outer inner n whole before after e b f at =
    let c : Along = all (first_column columns) in
    let m : ℕ = nodes_in items + n in
    let is : List ℕ = openers items c n in
    let ms : List ℕ = openers more (other_columns columns) m in
    let s₁ : Seen = walk items c a s in
    let after₁ : From m (ms ++ after) = AllOf_append (λ k. m ≤ k) ms after (openers_from more (other_columns columns) m)
    (AllOf_weaken (λ k. (nodes_in items + nodes_in more) + n ≤ k) (λ k. m ≤ k) (λ k h. omega (arith, h)) after f) in
    let one : After whole before m is (lines items c outer inner n) s s₁ =
    walked items c a s outer inner n whole before (ms ++ after) (e ∙ ap (λ xs. before ++ xs) (append_assoc is ms after)) b after₁ at in
    let two : After whole (before ++ is) (nodes_in more + m) ms (lines more (other_columns columns) outer inner m) s₁ (walk more (other_columns columns) a s₁) =
    walked more (other_columns columns) a s₁ outer inner m whole (before ++ is) after
    (e ∙ ap (λ xs. before ++ xs) (append_assoc is ms after) ∙ sym (append_assoc before is (ms ++ after)))
    (Below_append n m before is (omega arith) b (openers_below items c n))
    (AllOf_weaken (λ k. (nodes_in items + nodes_in more) + n ≤ k) (λ k. nodes_in more + m ≤ k) (λ k h. omega (arith, h)) after f)
    (record { nodes = one.nodes; scopes = one.scopes; outside = at.outside; inside = at.inside }) in
    record {
      nodes = omega (arith, two.nodes);
      scopes = two.scopes ∙ ap length (append_assoc before is ms);
      sites = two.sites ∙ ap (onto (map (found_by whole) (lines more (other_columns columns) outer inner m))) one.sites
          ∙ sym (onto_append (found_by whole) (lines items c outer inner n) (lines more (other_columns columns) outer inner m) (map found s.sites));
    }
walked (child k st en fields more) columns a s outer inner n whole before after e b f at =
    let f₁ : Column = first_column columns in
    let o : Opens = (row k).opens in
    let bare : Bool = is_bare f₁.mark in
    let l : Lineage = at_side f₁.inside outer inner in
    let here : Setting = at_field f₁ a in
    let around : Around = enter (row k) (hide k fields) here s in
    let s₁ : Seen = met o st here around.inside.scope s in
    let c : Along = each (row k).columns in
    let m : ℕ = suc (nodes_in fields) + n in
    let own : List ℕ = own_opener o bare n in
    let fs : List ℕ = openers fields c (suc n) in
    let ms : List ℕ = openers more (other_columns columns) m in
    let outer₁ : Lineage = ancestor n o bare false ∷ l in
    let inner₁ : Lineage = ancestor n o bare true ∷ l in
    let lf : List Line = lines fields c outer₁ inner₁ (suc n) in
    let lm : List Line = lines more (other_columns columns) outer inner m in
    let s₂ : Seen = walk fields c around s₁ in
    let fit : Fits whole here l = field_fits f₁ whole a outer inner at.outside at.inside in
    let number : scope_number whole n ≡ length s.scopes =
    ap (λ w. scope_number w n) e
    ∙ below_counted n before ((own ++ (fs ++ ms)) ++ after) b
    (AllOf_append (λ k. n ≤ k) (own ++ (fs ++ ms)) after (openers_from (child k st en fields more) columns n)
    (AllOf_weaken (λ k. suc (nodes_in fields + nodes_in more) + n ≤ k) (λ k. n ≤ k) (λ k h. omega (arith, h)) after f))
    ∙ sym at.scopes in
    let e₁ : whole ≡ (before ++ own) ++ (fs ++ (ms ++ after)) = e ∙ regroup before own fs ms after in
    let b₁ : Below (suc n) (before ++ own) = Below_append n (suc n) before own (omega arith) b (own_below o bare n) in
    let after₁ : From (nodes_in fields + suc n) (ms ++ after) =
    AllOf_append (λ k. nodes_in fields + suc n ≤ k) ms after
    (AllOf_weaken (λ k. m ≤ k) (λ k. nodes_in fields + suc n ≤ k) (λ k h. omega (arith, h)) ms (openers_from more (other_columns columns) m))
    (AllOf_weaken (λ k. suc (nodes_in fields + nodes_in more) + n ≤ k) (λ k. nodes_in fields + suc n ≤ k) (λ k h. omega (arith, h)) after f) in
    let one : After whole (before ++ own) (nodes_in fields + suc n) fs lf s₁ s₂ =
    walked fields c around s₁ outer₁ inner₁ (suc n) whole (before ++ own) (ms ++ after) e₁ b₁ after₁
    (record {
      nodes = met_nodes o st here around.inside.scope s ∙ ap suc at.nodes;
      scopes = met_scopes o st here around.inside.scope s bare n before (field_bare f₁ a) at.scopes;
      outside = outer_fits o bare n whole here l fit;
      inside = inner_fits o bare (strict_in (row k).strict here.strict (hide k fields)) (length s.scopes) s.classes n whole here l (field_bare f₁ a) number fit;
    }) in
    let two : After whole ((before ++ own) ++ fs) (nodes_in more + m) ms lm s₂ (walk more (other_columns columns) a s₂) =
    walked more (other_columns columns) a s₂ outer inner m whole ((before ++ own) ++ fs) after
    (e₁ ∙ sym (append_assoc (before ++ own) fs (ms ++ after)))
    (Below_append (suc n) m (before ++ own) fs (omega arith) b₁ (AllOf_weaken (λ k. k < nodes_in fields + suc n) (λ k. k < m) (λ k h. omega (arith, h)) fs (openers_below fields c (suc n))))
    (AllOf_weaken (λ k. suc (nodes_in fields + nodes_in more) + n ≤ k) (λ k. nodes_in more + m ≤ k) (λ k h. omega (arith, h)) after f)
    (record { nodes = omega (arith, one.nodes); scopes = one.scopes; outside = at.outside; inside = at.inside }) in
    record {
      nodes = omega (arith, two.nodes);
      scopes = two.scopes ∙ ap length (append_assoc (before ++ own) fs ms ∙ append_assoc before own (fs ++ ms));
      sites = two.sites
          ∙ ap (onto (map (found_by whole) lm)) (one.sites ∙ ap (onto (map (found_by whole) lf)) (met_sites o st here around.inside.scope s n whole l at.nodes fit))
          ∙ sym (onto_append (found_by whole) (own_line o n l) (lf ++ lm) (map found s.sites) ∙ onto_append (found_by whole) lf lm (onto (map (found_by whole) (own_line o n l)) (map found s.sites)));
    }

-- ---- a whole tree

pub onto_reverse : {X : Type 0} (xs ys : List X) → onto xs ys ≡ reverse xs ++ ys
unfolding all_open
onto_reverse [] ys = refl
onto_reverse (x ∷ xs) ys = onto_reverse xs (x ∷ ys) ∙ sym (append_assoc (reverse xs) (x ∷ []) ys) ∙ ap (λ zs. zs ++ ys) (sym (reverse_onto xs x []))

pub scopes_are_nearest : (t : Parts) → map found (sites t) ≡ map (found_by (openers_of t)) (lines_of t)
unfolding all_open
scopes_are_nearest t =
    let os : List ℕ = openers_of t in
    let xs : List Found = map (found_by os) (lines_of t) in
    let fit : Fits os before_all.outside [] = record { scope = refl; var_scope = refl } in
    let all₁ : After os [] (nodes_in t + 0) os (lines_of t) nothing_yet (seen t) =
    walked t (all unlisted) before_all nothing_yet [] [] 0 os [] [] (sym (append-nil os)) tt tt
    (record { nodes = refl; scopes = refl; outside = fit; inside = record { scope = refl; var_scope = refl } }) in
    map_reverse found (seen t).sites ∙ ap reverse (all₁.sites ∙ onto_reverse xs [] ∙ append-nil (reverse xs)) ∙ reverse-reverse xs
