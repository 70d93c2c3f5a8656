-- The bindings of joined modules are those of each, moved.
use Rattle.std.proofs.Common.{◌≡◌, ℕ, suc, ◌+◌, List, [], ◌∷◌, ◌++◌, map, Option, Some, slice_get, refl, sym, ap, ap₂, ◌∙◌, arith}
use Rattle.std.proofs.lemmas.List.{map-append}
use Rattle.std.specs.List.{AllByRecursion}
use Rattle.bundle_rules.proofs.BundlePlaces.{moves_at, tagged}
use Rattle.bundle_rules.proofs.KeptApart.{binding_at, bindings_kept, joint, new_names, private_binding_at}
use Rattle.bundle_rules.proofs.NewNamesApart.{Part, parts}
use Rattle.bundle_rules.proofs.PrivateKept.{private_kept}
use Rattle.bundle_rules.proofs.TaggedPlaces.{Tagged, moved_node, same_tagged, tag}
use Rattle.bundle_rules.specs.Bundles.{AreParts, modules_of}
use Rattle.bundle_rules.specs.Laws.{BundlesKeepBindings, BundlesKeepPrivateNames, all_moved, bindings_moved}
use Rattle.bundle_rules.specs.Mentions.{mentions_of}
use Rattle.bundle_rules.specs.Moves.{IsBare, Moves, moves_after, no_moves}
use Rattle.bundle_rules.specs.NewNames.{Modules}
use Rattle.scope_rules.specs.Bindings.{binding, bindings, same_name}
use Rattle.scope_rules.specs.PrivateNames.{private_binding, private_bindings}
use Rattle.tree_nodes.specs.Tree.{Text, Tree, alone}
use Rattle.tree_places.specs.Places.{Named, Place, places}

-- of each part what a list of places tells of each of them, moved
abbrev told : (List Place → Place → Option ℕ) → Moves → List Part → List (Option ℕ)
told f m [] = []
told f m (d ∷ ds) = map (moved_node m) (map (f (places (alone d.tree))) (places (alone d.tree))) ++ told f (moves_after m d.tree) ds

module _ (f : List Place → Place → Option ℕ) (g : Named Tagged → Option ℕ) where
  one_part : (n i : ℕ) (m : Moves) (all ps : List Place) → n ≡ i → ((q : Place) → g (tag n m q) ≡ moved_node m (f all q)) → map g (map (tag i m) ps) ≡ map (moved_node m) (map (f all) ps)
  one_part n i m all [] e h = refl
  one_part n i m all (q ∷ ps) e h = ap₂ (λ (o : Option ℕ) (os : List (Option ℕ)). o ∷ os) (ap (λ (k : ℕ). g (tag k m q)) (sym e) ∙ h q) (one_part n i m all ps e h)

  each_part : (i : ℕ) (m : Moves) (ds : List Part) → ((k : ℕ) (d : Part) (q : Place) → slice_get ds k ≡ Some d → g (tag (i + k) (moves_at m ds k) q) ≡ moved_node (moves_at m ds k) (f (places (alone d.tree)) q))
      → map g (tagged i m ds) ≡ told f m ds
  each_part i m [] h = refl
  each_part i m (d ∷ ds) h =
      let ps = places (alone d.tree) in
      map-append g (map (tag i m) ps) (tagged (suc i) (moves_after m d.tree) ds)
      ∙ ap₂ (λ (xs ys : List (Option ℕ)). xs ++ ys)
      (one_part (i + 0) i m ps ps (omega arith) (λ q. h 0 d q refl))
      (each_part (suc i) (moves_after m d.tree) ds (λ k e q s. ap (λ (n : ℕ). g (tag n (moves_at (moves_after m d.tree) ds k) q)) (omega arith) ∙ h (suc k) e q s))

-- of the modules themselves
told_moved : (f : List Place → Place → Option ℕ) (bound : List Place → List (Option ℕ)) → ((ps : List Place) → bound ps ≡ map (f ps) ps) → (m : Moves) (all before : Modules) (given : List Text) (ts us : List Tree) (last : List Text) (a : AreParts all before given ts us last)
    → told f m (parts all before given ts us last a) ≡ all_moved bound m ts
unfolding parts all_moved bindings_moved
told_moved f bound e m all before given [] [] last a = refl
told_moved f bound e m all before given [] (u ∷ us) last a = absurd a
told_moved f bound e m all before given (t ∷ ts) [] last a = absurd a
told_moved f bound e m all before given (t ∷ ts) (u ∷ us) last a =
    ap₂ (λ (xs ys : List (Option ℕ)). map (moved_node m) xs ++ ys) (sym (e (places (alone t)))) (told_moved f bound e (moves_after m t) all (before ++ mentions_of t ∷ []) (given ++ a.0) ts us last a.2)

each_bound : (ps : List Place) → bindings same_name ps ≡ map (binding same_name ps) ps
unfolding bindings
each_bound ps = refl

all_bound : (ts us : List Tree) (given : List Text) (a : AreParts (modules_of ts) [] [] ts us given) (bare : AllByRecursion IsBare ts) → bindings same_tagged (joint ts us given a bare) ≡ all_moved (bindings same_name) no_moves ts
unfolding bindings
all_bound ts us given a bare =
    each_part (λ ps q. binding same_name ps q) (binding same_tagged (joint ts us given a bare)) 0 no_moves (parts (modules_of ts) [] [] ts us given a) (binding_at ts us given a bare)
    ∙ told_moved (λ ps q. binding same_name ps q) (bindings same_name) each_bound no_moves (modules_of ts) [] [] ts us given a

pub bundles_keep_bindings : BundlesKeepBindings
bundles_keep_bindings ts w bare b =
    ap (λ (t : Tree). bindings same_name (places (alone t))) b.3 ∙ bindings_kept ts b.0 b.1 b.2 bare ∙ all_bound ts b.0 b.1 b.2 bare

-- ---- private names

each_private : (ps : List Place) → private_bindings same_name ps ≡ map (private_binding same_name ps) ps
unfolding private_bindings
each_private ps = refl

all_private : (ts us : List Tree) (given : List Text) (a : AreParts (modules_of ts) [] [] ts us given) (bare : AllByRecursion IsBare ts) → private_bindings same_tagged (joint ts us given a bare) ≡ all_moved (private_bindings same_name) no_moves ts
unfolding private_bindings
all_private ts us given a bare =
    each_part (λ ps q. private_binding same_name ps q) (private_binding same_tagged (joint ts us given a bare)) 0 no_moves (parts (modules_of ts) [] [] ts us given a) (private_binding_at ts us given a bare)
    ∙ told_moved (λ ps q. private_binding same_name ps q) (private_bindings same_name) each_private no_moves (modules_of ts) [] [] ts us given a

pub bundles_keep_private_names : BundlesKeepPrivateNames
bundles_keep_private_names ts w bare b =
    ap (λ (t : Tree). private_bindings same_name (places (alone t))) b.3
    ∙ ap (private_bindings same_name) (sym (new_names ts b.0 b.1 b.2 bare)) ∙ private_kept ts b.0 b.1 b.2 bare ∙ all_private ts b.0 b.1 b.2 bare
