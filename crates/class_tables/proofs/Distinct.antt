-- Names that are kept once, one name after another.
use Rattle.std.specs.Prelude.{◌≡◌, ◌≤◌, ℕ, suc, Bool, true, false, cond, not, ◌&&◌, ◌||◌, List, [], ◌∷◌, ◌++◌, length, map, filter, find, Option, Some, None, is_some, option_map, if◌then◌else◌}
use Rattle.std.proofs.Common.{refl, sym, ap, ◌∙◌, arith}
use Rattle.std.proofs.lemmas.Bool.{both_ways}
use Rattle.std.proofs.lemmas.List.{map-append}
use Rattle.std.proofs.lemmas.Slice.Eq.{bytes_eq-Decides}
use Rattle.tree_nodes.specs.Tree.{Text}
use Rattle.scope_rules.specs.Bindings.{or_else, same_name}
use Rattle.scope_rules.specs.PrivateNames.{distinct, distinct_after, is_among}
use Rattle.class_tables.specs.Sights.{Sight, declares_in, declares_name, names_in, node_in}
use Rattle.class_tables.specs.Tables.{place_in}

or_moves : (s b d : Bool) → ((s || b) || d) ≡ (b || (s || d))
or_moves true true d = refl
or_moves true false d = refl
or_moves false true d = refl
or_moves false false d = refl

distinct_more : (b xs : List Text) (n : Text) → distinct_after b (xs ++ n ∷ []) ≡ distinct_after b xs ++ (if is_among b n || is_among (distinct_after b xs) n then [] else n ∷ [])
unfolding distinct_after is_among
distinct_more b [] n = go (is_among b n)
  where
    go : (t : Bool) → elim t as (λ _. List Text) [ true ↦ [] | false ↦ n ∷ [] ] ≡ (if t || false then [] else n ∷ [])
    go true = refl
    go false = refl
distinct_more b (x ∷ xs) n = go (is_among b x) (distinct_more b xs n) (distinct_more (x ∷ b) xs n)
  where
    go : (t : Bool)
        → distinct_after b (xs ++ n ∷ []) ≡ distinct_after b xs ++ (if is_among b n || is_among (distinct_after b xs) n then [] else n ∷ [])
        → distinct_after (x ∷ b) (xs ++ n ∷ []) ≡ distinct_after (x ∷ b) xs ++ (if is_among (x ∷ b) n || is_among (distinct_after (x ∷ b) xs) n then [] else n ∷ [])
        → elim t as (λ _. List Text) [ true ↦ distinct_after b (xs ++ n ∷ []) | false ↦ x ∷ distinct_after (x ∷ b) (xs ++ n ∷ []) ]
        ≡ elim t as (λ _. List Text) [ true ↦ distinct_after b xs | false ↦ x ∷ distinct_after (x ∷ b) xs ]
        ++ (if is_among b n || is_among (elim t as (λ _. List Text) [ true ↦ distinct_after b xs | false ↦ x ∷ distinct_after (x ∷ b) xs ]) n then [] else n ∷ [])
    go true i j = i
    go false i j = ap (λ ys. x ∷ ys) j
        ∙ ap (λ (c : Bool). x ∷ (distinct_after (x ∷ b) xs ++ (if c then [] else n ∷ []))) (or_moves (same_name n x) (is_among b n) (is_among (distinct_after (x ∷ b) xs) n))

filter_more : (p : Sight → Bool) (ss : List Sight) (s : Sight) → filter p (ss ++ s ∷ []) ≡ filter p ss ++ (if p s then s ∷ [] else [])
filter_more p [] s = go (p s)
  where
    go : (t : Bool) → cond t (s ∷ []) [] ≡ (if t then s ∷ [] else [])
    go true = refl
    go false = refl
filter_more p (r ∷ rs) s = go (p r) (filter_more p rs s)
  where
    go : (t : Bool) → filter p (rs ++ s ∷ []) ≡ filter p rs ++ (if p s then s ∷ [] else [])
        → cond t (r ∷ filter p (rs ++ s ∷ [])) (filter p (rs ++ s ∷ [])) ≡ cond t (r ∷ filter p rs) (filter p rs) ++ (if p s then s ∷ [] else [])
    go true ih = ap (λ ys. r ∷ ys) ih
    go false ih = ih

append_nothing : {X : Type 0} (xs : List X) → xs ++ [] ≡ xs
append_nothing [] = refl
append_nothing (x ∷ xs) = ap (λ ys. x ∷ ys) (append_nothing xs)

-- the names with one place more
pub names_more : (ss : List Sight) (s : Sight) (c : ℕ) → names_in (ss ++ s ∷ []) c ≡ (if declares_in c s && not (is_among (names_in ss c) s.name) then names_in ss c ++ s.name ∷ [] else names_in ss c)
unfolding names_in distinct is_among
names_more ss s c = ap (λ rs. distinct (map (λ r. r.name) rs)) (filter_more (declares_in c) ss s) ∙ go (declares_in c s)
  where
    told : (t : Bool) → names_in ss c ++ (if t then [] else s.name ∷ []) ≡ (if not t then names_in ss c ++ s.name ∷ [] else names_in ss c)
    told true = append_nothing (names_in ss c)
    told false = refl

    go : (t : Bool) → distinct (map (λ r. r.name) (filter (declares_in c) ss ++ (if t then s ∷ [] else []))) ≡ (if t && not (is_among (names_in ss c) s.name) then names_in ss c ++ s.name ∷ [] else names_in ss c)
    go true = ap distinct (map-append (λ r. r.name) (filter (declares_in c) ss) (s ∷ [])) ∙ distinct_more [] (map (λ r. r.name) (filter (declares_in c) ss)) s.name ∙ told (is_among (names_in ss c) s.name)
    go false = ap (λ rs. distinct (map (λ r. r.name) rs)) (append_nothing (filter (declares_in c) ss))

-- ---- places of names

pub place_more : (x : Text) (ys : List Text) (n : Text) → place_in x (ys ++ n ∷ []) ≡ or_else (place_in x ys) (if same_name x n then Some (length ys) else None)
unfolding place_in or_else
place_more x [] n = go (same_name x n)
  where
    go : (t : Bool) → if◌then◌else◌ {A = Option ℕ} t (Some 0) None ≡ or_else None (if◌then◌else◌ {A = Option ℕ} t (Some 0) None)
    go true = refl
    go false = refl
place_more x (y ∷ ys) n = go (same_name x y) (place_more x ys n)
  where
    further : (o : Option ℕ) (t : Bool) → option_map (λ k. suc k) (or_else o (if t then Some (length ys) else None)) ≡ or_else (option_map (λ k. suc k) o) (if t then Some (suc (length ys)) else None)
    further None true = refl
    further None false = refl
    further (Some k) t = refl

    go : (t : Bool) → place_in x (ys ++ n ∷ []) ≡ or_else (place_in x ys) (if same_name x n then Some (length ys) else None)
        → if◌then◌else◌ {A = Option ℕ} t (Some 0) (option_map (λ k. suc k) (place_in x (ys ++ n ∷ [])))
        ≡ or_else (if◌then◌else◌ {A = Option ℕ} t (Some 0) (option_map (λ k. suc k) (place_in x ys))) (if same_name x n then Some (suc (length ys)) else None)
    go true ih = refl
    go false ih = ap (option_map (λ k. suc k)) ih ∙ further (place_in x ys) (same_name x n)

pub place_told : (x : Text) (ys : List Text) → is_some (place_in x ys) ≡ is_among ys x
unfolding place_in is_among
place_told x [] = refl
place_told x (y ∷ ys) = go (same_name x y) (place_told x ys)
  where
    further : (o : Option ℕ) → is_some (option_map (λ k. suc k) o) ≡ is_some o
    further None = refl
    further (Some k) = refl

    go : (t : Bool) → is_some (place_in x ys) ≡ is_among ys x → is_some (if◌then◌else◌ {A = Option ℕ} t (Some 0) (option_map (λ k. suc k) (place_in x ys))) ≡ (t || is_among ys x)
    go true ih = refl
    go false ih = further (place_in x ys) ∙ ih

-- ---- first places

pub node_more : (ss : List Sight) (s : Sight) (c : ℕ) (x : Text) → node_in (ss ++ s ∷ []) c x ≡ or_else (node_in ss c x) (if declares_name x c s then Some s.node else None)
unfolding node_in or_else
node_more [] s c x = go (declares_name x c s)
  where
    go : (t : Bool) → option_map (λ r. r.node) (cond t (Some s) None) ≡ or_else None (if t then Some s.node else None)
    go true = refl
    go false = refl
node_more (r ∷ rs) s c x = go (declares_name x c r) (node_more rs s c x)
  where
    go : (t : Bool) → option_map (λ r. r.node) (find (declares_name x c) (rs ++ s ∷ [])) ≡ or_else (option_map (λ r. r.node) (find (declares_name x c) rs)) (if declares_name x c s then Some s.node else None)
        → option_map (λ r. r.node) (cond t (Some r) (find (declares_name x c) (rs ++ s ∷ []))) ≡ or_else (option_map (λ r. r.node) (cond t (Some r) (find (declares_name x c) rs))) (if declares_name x c s then Some s.node else None)
    go true ih = refl
    go false ih = ih

-- ---- which names are the same

pub same_flips : (x y : Text) → same_name x y ≡ same_name y x
unfolding same_name
same_flips x y = go _ refl _ refl
  where
    go : (t : Bool) → same_name x y ≡ t → (u : Bool) → same_name y x ≡ u → t ≡ u
    go true p true q = refl
    go false p false q = refl
    go true p false q = absurd (both_ways _ q ((bytes_eq-Decides y x).1 (sym ((bytes_eq-Decides x y).0 p))))
    go false p true q = absurd (both_ways _ p ((bytes_eq-Decides x y).1 (sym ((bytes_eq-Decides y x).0 q))))

-- ---- a class body declares at most as many names as there are places

few_after : (b xs : List Text) → length (distinct_after b xs) ≤ length xs
unfolding distinct_after
few_after b [] = omega arith
few_after b (x ∷ xs) = go (is_among b x) (few_after b xs) (few_after (x ∷ b) xs)
  where
    go : (t : Bool) → length (distinct_after b xs) ≤ length xs → length (distinct_after (x ∷ b) xs) ≤ length xs
        → length (elim t as (λ _. List Text) [ true ↦ distinct_after b xs | false ↦ x ∷ distinct_after (x ∷ b) xs ]) ≤ suc (length xs)
    go true i j = omega arith
    go false i j = omega arith

few_pass : (p : Sight → Bool) (ss : List Sight) → length (map (λ r. r.name) (filter p ss)) ≤ length ss
few_pass p [] = omega arith
few_pass p (s ∷ ss) = go (p s) (few_pass p ss)
  where
    go : (t : Bool) → length (map (λ r. r.name) (filter p ss)) ≤ length ss → length (map (λ r. r.name) (cond t (s ∷ filter p ss) (filter p ss))) ≤ suc (length ss)
    go true ih = omega arith
    go false ih = omega arith

pub names_few : (ss : List Sight) (c : ℕ) → length (names_in ss c) ≤ length ss
unfolding names_in distinct
names_few ss c = let a = few_after [] (map (λ r. r.name) (filter (declares_in c) ss)) in let b = few_pass (declares_in c) ss in omega arith
