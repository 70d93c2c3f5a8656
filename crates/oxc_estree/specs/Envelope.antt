-- A value with the paths to what is to be mended in it, as one text.
use Rattle.std.specs.Prelude.{◌≡◌, ℕ, List, [], ◌∷◌, ◌++◌, codes, cond, nat_eq}
use Rattle.json_text.specs.Json.{Json, list, object, Items, no_items, item, no_members, member}
use Rattle.json_text.specs.Layout.{Layout, compact}
use Rattle.json_text.specs.Text.{text_of}
use Rattle.json_text.specs.HasText.{HasText}
use Rattle.json_text.specs.Grammar.{Reads}
use Rattle.oxc_estree.specs.Out.{Part, Meaning, path_value, front}

-- the paths to the nodes that hold what is marked
abbrev pub fix_paths : List (List Part) → Items
fix_paths [] = no_items
fix_paths (m ∷ ms) = item (path_value (front m)) (fix_paths ms)

-- a value in a layout on lines of its own, and the paths
abbrev pub envelope : Layout → Meaning → List ℕ
envelope l m = codes "{\"node\":\n" ++ (text_of l m.value
    ++ (codes "\n,\"fixes\":" ++ (text_of compact (list (fix_paths m.marks)) ++ codes "}")))

-- less the comma at its front
abbrev pub without_comma : List ℕ → List ℕ
without_comma [] = []
without_comma (c ∷ cs) = cond (nat_eq c 44) cs (c ∷ cs)

-- the end of the text, of paths that stand after a comma each
abbrev pub fixes_member : List ℕ → List ℕ
fixes_member fixes = codes "\n,\"fixes\":[" ++ (without_comma fixes ++ codes "]}")

-- the object that this text is
abbrev pub envelope_value : Meaning → Json
envelope_value m =
    object (member (codes "node") m.value (member (codes "fixes") (list (fix_paths m.marks)) no_members))

-- the text reads as this object, and as no other value
abbrev pub EnvelopeReadsAlone : Type 0
EnvelopeReadsAlone = (l : Layout) (m : Meaning) → HasText (envelope_value m) →
    Reads (envelope l m) (envelope_value m)
    × ((w : Json) → Reads (envelope l m) w → w ≡ envelope_value m)
