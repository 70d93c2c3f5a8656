-- A run that looks like one which fits the node table fits it too, if its names are identifier names.
use Rattle.std.proofs.Common.{◌≡◌, ℕ, ◌<◌, ◌^◌, Bool, List, [], ◌∷◌, sym, ap, subst, ◌∙◌}
use Rattle.tree_core.proofs.Fits.{FitFields, FitItems, Fits, FitsAtom, FitsHead, FitsNext}
use Rattle.tree_core.specs.Values.{is_null_atom}
use Rattle.tree_nodes.specs.Table.{Column, row}
use Rattle.tree_nodes.specs.Tree.{Atom, Parts, Tree, alone, atom, child, done, is_empty, many}
use Rattle.tree_nodes.specs.declared.kind.Kind.{Kind}
use Rattle.tree_nodes.specs.declared.table.Class.{Class as FieldClass}
use Rattle.tree_nodes.specs.declared.table.Class.TheVariants.{Pattern}
use Rattle.tree_places.proofs.Blind.{blank-blind}
use Rattle.tree_places.specs.Places.{hide}
use Rattle.tree_places.specs.Renaming.{blind}
use Rattle.tree_rename.specs.Formed.{AreFormed, IsFormed}
use Rattle.tree_rename.proofs.IdentifierNames.{Named, NamedHere}
use Rattle.tree_rename.proofs.RenamedFields.{RenamedFields, renamed_fields}

empty_alike : (n m : Parts) → blind n ≡ blind m → is_empty n ≡ is_empty m
empty_alike n m e = sym (blank-blind n) ∙ ap is_empty e ∙ blank-blind m

next_fits : (class : FieldClass) (a b : Atom) (m n : Parts) → b ≡ a → is_empty n ≡ is_empty m → FitsNext class a m → FitsNext class b n
next_fits Pattern a b m n e f h = ap is_null_atom e ∙ h ∙ sym f
next_fits _ a b m n e f h = tt

head_alike : (s s' e e' : ℕ) → s ≡ s' → e ≡ e' → FitsHead s' e' → FitsHead s e
head_alike s s' e e' q r h = (subst (λ x. x < 2 ^ 32) (sym q) h.0, subst (λ x. x < 2 ^ 32) (sym r) h.1)

-- what two equal nodes have in common
pub child_same : (k k' : Kind) (s s' e e' : ℕ) (f f' m m' : Parts) → child k s e f m ≡ child k' s' e' f' m'
    → (k ≡ k') × (s ≡ s') × (e ≡ e') × (f ≡ f') × (m ≡ m')
child_same k k' s s' e e' f f' m m' same = (cc, cc, cc, cc, cc)

-- the fields of a node beside those that were there
pub renamed_child : (k k' : Kind) (fields others : Parts) → k ≡ k' → hide k (blind fields) ≡ hide k' (blind others)
    → IsFormed k' others → NamedHere k fields → RenamedFields k fields others
renamed_child k k' fields others p same w n =
    renamed_fields k fields others (subst (λ x. IsFormed x others) (sym p) w) (same ∙ ap (λ x. hide x (blind others)) (sym p)) n

mutual
  unfolding blind

  fit_fields : (u t : Parts) (cs : List Column) → blind u ≡ blind t → AreFormed t → Named u → FitFields t cs → FitFields u cs
  fit_fields done done cs same w n f = f
  fit_fields done _ cs same w n f = absurd (cc)
  fit_fields (atom b more) (atom a rest) [] same w n f = absurd f
  fit_fields (atom b more) (atom a rest) (c ∷ cs) same w n f =
      let own : b ≡ a = cc in
      let later : blind more ≡ blind rest = cc in
      (subst (FitsAtom c.class) (sym own) f.0, next_fits c.class a b rest more own (empty_alike more rest later) f.1, fit_fields more rest cs later w n f.2)
  fit_fields (atom b more) _ cs same w n f = absurd (cc)
  fit_fields (many items more) (many others rest) [] same w n f = absurd f
  fit_fields (many items more) (many others rest) (c ∷ cs) same w n f =
      let below : blind items ≡ blind others = cc in
      let later : blind more ≡ blind rest = cc in
      (f.0, f.1, fit_items items others f.0 below w.0 n.0 f.2, fit_fields more rest cs later w.1 n.1 f.3)
  fit_fields (many items more) _ cs same w n f = absurd (cc)
  fit_fields (child k s e fields more) (child k' s' e' others rest) [] same w n f = absurd f
  fit_fields (child k s e fields more) (child k' s' e' others rest) (c ∷ cs) same w n f =
      let p = child_same k k' s s' e e' _ _ _ _ same in
      let o = renamed_child k k' fields others p.0 p.3 w.0 n.0 in (
        f.0,
        head_alike s s' e e' p.1 p.2 f.1,
        fit_fields fields o.fields (row k).columns o.alike (o.formed w.1) n.1 (o.fits (subst (λ x. FitFields others (row x).columns) (sym p.0) f.2)),
        fit_fields more rest cs p.4 w.2 n.2 f.3,
      )
  fit_fields (child k s e fields more) _ cs same w n f = absurd (cc)

  fit_items : (u t : Parts) (holes : Bool) → blind u ≡ blind t → AreFormed t → Named u → FitItems t holes → FitItems u holes
  fit_items done done holes same w n f = tt
  fit_items done _ holes same w n f = absurd (cc)
  fit_items (atom b more) (atom a rest) holes same w n f =
      let own : b ≡ a = cc in
      let later : blind more ≡ blind rest = cc in
      (f.0, own ∙ f.1, fit_items more rest holes later w n f.2)
  fit_items (atom b more) _ holes same w n f = absurd (cc)
  fit_items (many items more) (many others rest) holes same w n f = absurd f
  fit_items (many items more) _ holes same w n f = absurd (cc)
  fit_items (child k s e fields more) (child k' s' e' others rest) holes same w n f =
      let p = child_same k k' s s' e e' _ _ _ _ same in
      let o = renamed_child k k' fields others p.0 p.3 w.0 n.0 in (
        head_alike s s' e e' p.1 p.2 f.0,
        fit_fields fields o.fields (row k).columns o.alike (o.formed w.1) n.1 (o.fits (subst (λ x. FitFields others (row x).columns) (sym p.0) f.1)),
        fit_items more rest holes p.4 w.2 n.2 f.2,
      )
  fit_items (child k s e fields more) _ holes same w n f = absurd (cc)

-- the fact, of a tree
pub tree_fits_alike : (u t : Tree) → blind (alone u) ≡ blind (alone t) → AreFormed (alone t) → Named (alone u) → Fits t → Fits u
unfolding blind
tree_fits_alike u t same w n f =
    let p = child_same u.kind t.kind u.start t.start u.stop t.stop _ _ _ _ same in
    let o = renamed_child u.kind t.kind u.fields t.fields p.0 p.3 w.0 n.0 in (
      head_alike u.start t.start u.stop t.stop p.1 p.2 f.0,
      fit_fields u.fields o.fields (row u.kind).columns o.alike (o.formed w.1) n.1 (o.fits (subst (λ x. FitFields t.fields (row x).columns) (sym p.0) f.1)),
    )
