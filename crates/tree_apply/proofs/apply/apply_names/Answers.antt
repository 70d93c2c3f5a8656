use Rattle.std.specs.Prelude.{List, [], IsTrue, Option, map, string_bytes}
use Rattle.std.specs.List.{AllByRecursion}
use Rattle.std.proofs.Common.{Global, String, ap, subst, sym, ◌∙◌}
use Rattle.symbol_names.proofs.SymbolsNamed.{names_of_places}
use Rattle.tree_apply.proofs.AppliedMangles.{applied_mangles}
use Rattle.tree_apply.proofs.CalledNow.{all_called, new_identifier, plain_stays}
use Rattle.syntax_lex.specs.Identifier.{is_identifier_name}
use Rattle.tree_apply.proofs.GivenInTurn.{chosen_given, each_identifier, plain_spared, sites_of_places}
use Rattle.tree_apply.specs.Applied.{HasFewBytes, new_of, numbered, taken}
use Rattle.tree_nodes.specs.Tree.{Text, alone}
use Rattle.tree_places.specs.Chosen.{chosen, spare_plain}
use Rattle.tree_places.specs.Places.{Place, names, places, sites}
use Rattle.tree_places.specs.Renaming.{IsRenamed}
use Rattle.tree_semantic.specs.Renamed.{new_name}
use Rattle.tree_semantic.specs.Semantics.{scoping_of}
use Rattle.tree_symbols.specs.Scopings.{name_set}
use Rattle.tree_apply.proofs.apply.apply_names.Goals as goal

pub rename-requires-clause-spare : goal.rename-requires-clause-spare
rename-requires-clause-spare c =
    let t = alone c.args.program.now in
    let f : Place → Option Text = new_of (places t) (name_set (scoping_of c.args.semantic.now)) (new_name c.args.mappings.now) in
    ap (λ r. spare_plain (sites (alone r)) c.as_slice.result.now) (c.from_root-copy.ensures ∙ c.in_ok-try_clone.ensures ∙ c.root-root.ensures.root)
    ∙ ap (spare_plain (sites t)) (c.as_slice.ensures.value ∙ c.in_ok-given.ensures.choices t (c.in_ok-list.ensures.places ∙ ap (λ r. places (alone r)) c.root-root.ensures.root) c.requires.analysis)
    ∙ ap (λ ss. spare_plain ss (numbered 0 (map f (places t)))) (sym (sites_of_places t))
    ∙ plain_spared f (places t) 0 (plain_stays (places t) (name_set (scoping_of c.args.semantic.now)) (new_name c.args.mappings.now))

pub rename-requires-clause-identifiers : goal.rename-requires-clause-identifiers
rename-requires-clause-identifiers c =
    let t = alone c.args.program.now in
    let f : Place → Option Text = new_of (places t) (name_set (scoping_of c.args.semantic.now)) (new_name c.args.mappings.now) in
    subst (λ (ss : List (String Global)). AllByRecursion (λ s. IsTrue (is_identifier_name (string_bytes s))) ss) (sym c.as_slice-2.ensures.value)
    (each_identifier f (places t) c.in_ok-given.given.names.items
    (c.in_ok-given.ensures.names t (c.in_ok-list.ensures.places ∙ ap (λ r. places (alone r)) c.root-root.ensures.root) c.requires.analysis)
    (λ p i x e. new_identifier (places t) (name_set (scoping_of c.args.semantic.now)) (new_name c.args.mappings.now) c.requires.names c.requires.private p x e))

pub rename-requires-clause-short : goal.rename-requires-clause-short
rename-requires-clause-short c =
    subst (λ (ss : List (String Global)). AllByRecursion (λ s. HasFewBytes (string_bytes s)) ss) (sym c.as_slice-2.ensures.value) c.in_ok-given.ensures.short

pub returns-clause-renamed : goal.returns-clause-renamed
returns-clause-renamed c =
    subst (λ r. IsRenamed (alone r) (alone c.in_ok-renamed.renamed)) (c.from_root-copy.ensures ∙ c.in_ok-try_clone.ensures ∙ c.root-root.ensures.root) c.in_ok-renamed.ensures.renamed

pub returns-clause-names : goal.returns-clause-names
returns-clause-names c =
    let t = alone c.args.program.now in
    let name = name_set (scoping_of c.args.semantic.now) in
    let private = new_name c.args.mappings.now in
    let f : Place → Option Text = new_of (places t) name private in
    let listed = c.in_ok-list.ensures.places ∙ ap (λ r. places (alone r)) c.root-root.ensures.root in
    c.in_ok-renamed.ensures.names
    ∙ ap (λ (given : List Text). chosen given c.as_slice.result.now (names (alone c.from_root-copy.result))) (ap (λ (ss : List (String Global)). map string_bytes ss) c.as_slice-2.ensures.value ∙ c.in_ok-given.ensures.names t listed c.requires.analysis)
    ∙ ap (λ cs. chosen (taken (map f (places t))) cs (names (alone c.from_root-copy.result))) (c.as_slice.ensures.value ∙ c.in_ok-given.ensures.choices t listed c.requires.analysis)
    ∙ ap (λ r. chosen (taken (map f (places t))) (numbered 0 (map f (places t))) (names (alone r))) (c.from_root-copy.ensures ∙ c.in_ok-try_clone.ensures ∙ c.root-root.ensures.root)
    ∙ ap (chosen (taken (map f (places t))) (numbered 0 (map f (places t)))) (sym (names_of_places t))
    ∙ chosen_given f (places t) []
    ∙ all_called (places t) name private

pub returns-clause-mangled : goal.returns-clause-mangled
returns-clause-mangled c = λ o named are.
    let t = alone c.args.program.now in
    let name = name_set (scoping_of c.args.semantic.now) in
    let private = new_name c.args.mappings.now in
    let f : Place → Option Text = new_of (places t) name private in
    let listed = c.in_ok-list.ensures.places ∙ ap (λ r. places (alone r)) c.root-root.ensures.root in
    applied_mangles o c.args.program.now c.in_ok-renamed.renamed name private c.root-root.ensures.program c.requires.analysis.faultless
    (subst (λ r. IsRenamed (alone r) (alone c.in_ok-renamed.renamed)) (c.from_root-copy.ensures ∙ c.in_ok-try_clone.ensures ∙ c.root-root.ensures.root) c.in_ok-renamed.ensures.renamed)
    (c.in_ok-renamed.ensures.names
    ∙ ap (λ (given : List Text). chosen given c.as_slice.result.now (names (alone c.from_root-copy.result))) (ap (λ (ss : List (String Global)). map string_bytes ss) c.as_slice-2.ensures.value ∙ c.in_ok-given.ensures.names t listed c.requires.analysis)
    ∙ ap (λ cs. chosen (taken (map f (places t))) cs (names (alone c.from_root-copy.result))) (c.as_slice.ensures.value ∙ c.in_ok-given.ensures.choices t listed c.requires.analysis)
    ∙ ap (λ r. chosen (taken (map f (places t))) (numbered 0 (map f (places t))) (names (alone r))) (c.from_root-copy.ensures ∙ c.in_ok-try_clone.ensures ∙ c.root-root.ensures.root)
    ∙ ap (chosen (taken (map f (places t))) (numbered 0 (map f (places t)))) (sym (names_of_places t))
    ∙ chosen_given f (places t) []
    ∙ all_called (places t) name private)
    named
    are.declared
