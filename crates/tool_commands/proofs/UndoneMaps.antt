-- `restore` undoes `map`.
use Rattle.std.proofs.Common.{◌≡◌, ℕ, ◌<◌, ◌≤◌, ◌^◌, List, length, sym, ap, ◌∙◌, subst, arith}
use Rattle.std.specs.Io.KnownBytes.{Appends}
use Rattle.json_reading.specs.Parsed.{parsed_as}
use Rattle.json_reading.specs.Readable.{HasNoLone, nesting}
use Rattle.json_text.specs.Grammar.{Reads}
use Rattle.json_text.specs.Json.{Json}
use Rattle.json_text.specs.Layout.{compact}
use Rattle.name_map.specs.Filled.{apply_map}
use Rattle.name_map.specs.Undoing.{Undoing}
use Rattle.name_rules.specs.Options.{Options}
use Rattle.oxc_estree.specs.Envelope.{envelope}
use Rattle.serde_json.specs.Read.{max_depth}
use Rattle.tool_commands.proofs.MappedRead.{mapped_parses, mapped_told, mapped_utf8, mapped_within}
use Rattle.tool_commands.proofs.MappedTexts.{mapped_alone, mapped_reads}
use Rattle.tool_commands.specs.Map.{IsMapText}
use Rattle.tool_commands.specs.Mapped.{Mapped, mapped, mapped_in, mapped_text, mapped_value}
use Rattle.tool_commands.specs.Restore.{IsMappedInput, IsRestored}
use Rattle.tool_commands.specs.Undone.{CanBeReadAgain, IsPipedBackTo, IsUndoneTo, MapTextsAreJson, MapsAreUndone, PipedMapsAreUndone}
use Rattle.tree_core.specs.Values.{meaning_of}
use Rattle.tree_nodes.proofs.Cases.{some_same}
use Rattle.tree_nodes.specs.Tree.{Tree}

-- an input holds at most one program and map
read_once : (text : List ℕ) (t u : Tree) (m n : Undoing) → IsMappedInput text t m → IsMappedInput text u n → mapped t m ≡ mapped u n
read_once text t u m n a b =
    let same : a.value ≡ b.value = some_same a.value b.value (sym a.parses.1 ∙ b.parses.1) in
    some_same (mapped t m) (mapped u n) (sym a.is_mapped ∙ ap mapped_in same ∙ b.is_mapped)

module _ (o : Options) (t : Tree) (text : List ℕ) (a : IsMapText o t text) where
  -- the text is the value of the program beside the map
  value_is : (v : Json) → Reads text v → v ≡ mapped_value a.output a.undoing
  value_is v r = mapped_alone a.output a.undoing a.mangles.program a.sized v (subst (λ (x : List ℕ). Reads x v) a.text_is r)

  read_again : CanBeReadAgain text → IsMappedInput text a.output a.undoing
  read_again c =
      let u : Tree = a.output in
      let m : Undoing = a.undoing in
      let same : c.value ≡ mapped_value u m = value_is c.value c.reads in
      let whole : HasNoLone (mapped_value u m) = subst HasNoLone same c.whole in
      let shallow : nesting (mapped_value u m) ≤ max_depth = subst (λ (v : Json). nesting v ≤ max_depth) same c.shallow in
      let short : length (mapped_text u m) < 2 ^ 30 = omega (arith, c.short, ap length a.text_is) in
      subst (λ (x : List ℕ). IsMappedInput x u m) (sym a.text_is) (record {
        value = parsed_as (mapped_value u m);
        parses = (mapped_utf8 u m a.mangles.program a.sized whole.1, mapped_parses u m a.mangles.program a.sized whole.1 shallow);
        within = mapped_within u m a.mangles.program a.sized whole.1 short;
        is_mapped = mapped_told u m a.mangles.program a.sized whole.1;
      })

  undone : CanBeReadAgain text → IsUndoneTo t text
  undone c =
      let r : IsMappedInput text a.output a.undoing = read_again c in
      let back : envelope compact (meaning_of (apply_map a.output a.undoing)) ≡ envelope compact (meaning_of t) = ap (λ (x : Tree). envelope compact (meaning_of x)) a.restores in
      record {
        restorable = record { tree = a.output; undoing = a.undoing; read = r; fits = a.fits };
        restored = record { tree = a.output; undoing = a.undoing; read = r; fits = a.fits; text_is = sym back };
        alone = λ answer h. h.text_is
            ∙ ap (λ (x : Mapped). envelope compact (meaning_of (apply_map x.tree x.undoing))) (read_once text h.tree a.output h.undoing a.undoing h.read r)
            ∙ back;
      }

pub maps_are_undone : MapsAreUndone
maps_are_undone s input text map c = undone _ map.answer.tree text map.answer.answer c

piped_back : (t : Tree) (text : List ℕ) → CanBeReadAgain text → IsUndoneTo t text → IsPipedBackTo t text
piped_back t text c u = record {
  answerable = (c.short, u.restorable);
  written = λ left_new given_old given_new held_old held_new d.
      subst (Appends held_old held_new) (u.alone d.answer.text (subst (λ (x : List ℕ). IsRestored x d.answer.text) d.read.all d.answer.is_text)) d.answer.written;
}

pub piped_maps_are_undone : PipedMapsAreUndone
piped_maps_are_undone s left_old left_new given_old given_new held_old held_new map c =
    let by = map.answer.is_text in
    piped_back by.answer.tree map.answer.text c (maps_are_undone s map.input map.answer.text by c)

pub map_texts_are_json : MapTextsAreJson
map_texts_are_json s input text map =
    let a = map.answer.answer in (
      subst (λ (x : List ℕ). Reads x (mapped_value a.output a.undoing)) (sym a.text_is) (mapped_reads a.output a.undoing a.mangles.program a.sized),
      value_is _ map.answer.tree text a,
    )
