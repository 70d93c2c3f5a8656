use Rattle.std.proofs.Common.{◌≡◌, ◌∙◌, ℕ, List, None, Option, length, map, replicate, string_bytes, ap, subst, sym, arith}
use Rattle.std.proofs.lemmas.List.{length-map}
use Rattle.name_map.proofs.NamesChosen.{gives, spares, texts_are_identifiers, texts_are_short}
use Rattle.name_map.specs.Choices.{choose}
use Rattle.name_map.specs.Fits.{plain_places}
use Rattle.tree_core.specs.Program.{IsProgram}
use Rattle.tree_nodes.specs.Tree.{Tree, alone}
use Rattle.tree_places.specs.Chosen.{chosen}
use Rattle.tree_places.specs.Places.{names, sites}
use Rattle.tree_places.specs.Renaming.{IsRenamed, is_plain}
use Rattle.tree_rename.proofs.LoopSteps.{if_ok_also}
use Rattle.name_map.proofs.naming.with_names.Goals as goal

pub from_root-copy-requires : goal.from_root-copy-requires
from_root-copy-requires c =
    subst IsProgram (sym (c.in_ok-try_clone.ensures ∙ c.root-2.ensures.root)) c.root-2.ensures.program

pub rename-requires-clause-spare : goal.rename-requires-clause-spare
rename-requires-clause-spare c =
    let same : c.from_root-copy.result ≡ c.args.program.now = c.from_root-copy.ensures ∙ c.in_ok-try_clone.ensures ∙ c.root-2.ensures.root in
    rw (same, c.as_slice.ensures.value, c.in_ok-choices.ensures) (spares (sites (alone c.args.program.now)) c.len.result c.args.names.now c.requires)

pub rename-requires-clause-identifiers : goal.rename-requires-clause-identifiers
rename-requires-clause-identifiers c =
    rw c.as_slice-2.ensures.value (texts_are_identifiers (plain_places c.args.program.now) c.in_ok-texts.texts.items c.args.names.now c.requires c.in_ok-texts.ensures)

pub rename-requires-clause-short : goal.rename-requires-clause-short
rename-requires-clause-short c =
    rw c.as_slice-2.ensures.value (texts_are_short (plain_places c.args.program.now) c.in_ok-texts.texts.items c.args.names.now c.requires c.in_ok-texts.ensures)

pub returns-clause-renamed : goal.returns-clause-renamed
returns-clause-renamed c =
    let same : c.from_root-copy.result ≡ c.args.program.now = c.from_root-copy.ensures ∙ c.in_ok-try_clone.ensures ∙ c.root-2.ensures.root in
    if_ok_also c.rename.result (λ w e. subst (λ (t : Tree). IsRenamed (alone t) (alone w)) same e) c.rename.ensures.renamed

pub returns-clause-names : goal.returns-clause-names
returns-clause-names c =
    let t = c.args.program.now in
    let same : c.from_root-copy.result ≡ t = c.from_root-copy.ensures ∙ c.in_ok-try_clone.ensures ∙ c.root-2.ensures.root in
    let given = map string_bytes c.as_slice-2.result.now in
    let texts : given ≡ map (λ o. o.name) c.args.names.now = ap (map string_bytes) c.as_slice-2.ensures.value ∙ c.in_ok-texts.ensures in
    let choices : c.as_slice.result.now ≡ choose 0 c.args.names.now (replicate c.len.result None) = c.as_slice.ensures.value ∙ c.in_ok-choices.ensures in
    let plain : length c.in_ok-spots.spots.plain.items ≡ length (plain_places t) = ap length (c.in_ok-spots.ensures.plain ∙ ap plain_places c.root.ensures.root) in
    let long : length (plain_places t) ≡ length (sites (alone t)) = length-map (sites (alone t)) is_plain in
    let all : c.len.result ≡ length (sites (alone t)) = omega (arith, c.len.ensures, c.in_ok-spots.spots.plain.ok.0, plain, long) in
    if_ok_also c.rename.result
    (λ w e. e ∙ ap (λ (x : Tree). chosen given c.as_slice.result.now (names (alone x))) same
    ∙ ap (λ (cs : List (Option ℕ)). chosen given cs (names (alone t))) choices
    ∙ gives (sites (alone t)) c.len.result c.args.names.now given (names (alone t)) c.requires texts all)
    c.rename.ensures.names
