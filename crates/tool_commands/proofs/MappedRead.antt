-- What `serde_json` reads from the text of a program beside a map.
use Rattle.std.proofs.Common.{◌≡◌, ℕ, ◌+◌, ◌<◌, ◌≤◌, ◌^◌, List, [], ◌∷◌, ◌++◌, length, Bool, false, ◌||◌, codes, Some, IsUtf8, refl, ap, ap₂, ◌∙◌, arith, length-append}
use Rattle.std.proofs.lemmas.Bool.{lt-leb}
use Rattle.std.proofs.lemmas.Str.{IsUtf8-append}
use lib.Utf8.{encode}
use Rattle.json.proofs.Printed.Utf8.{IsUtf8-are_ascii}
use Rattle.json.specs.Lex.{Lexeme, between, colon, comma, lex, token}
use Rattle.json.specs.Token as tokens
use Rattle.json_reading.proofs.Lexed.{string_lexed, value_lexed}
use Rattle.json_reading.proofs.Raw.{lexemes, raw}
use Rattle.json_reading.proofs.Shapes.{tree_read}
use Rattle.json_reading.proofs.Sizes.{objects_counted, parts_short}
use Rattle.json_reading.proofs.TreeValues.{tree_readable}
use Rattle.json_reading.proofs.Utf8.{value_utf8}
use Rattle.json_reading.proofs.ValuesRead.{lexemes_read}
use Rattle.json_reading.specs.Parsed.{parsed_as, text_in_units}
use Rattle.json_reading.specs.Readable.{HasNoLone, IsReadable, nesting}
use Rattle.json_text.specs.Layout.{compact}
use Rattle.json_text.specs.Strings.{quoted_units}
use Rattle.json_text.specs.Text.{text_of}
use Rattle.name_map.specs.Reading.{map_of}
use Rattle.name_map.specs.Undoing.{Undoing}
use Rattle.name_map.specs.Written.{IsMap, map_value}
use Rattle.serde_json.specs.Data as parsed
use Rattle.serde_json.specs.Read.{max_depth, read}
use Rattle.tool_commands.proofs.MapValues.{map_read, map_readable, word_text}
use Rattle.tool_commands.proofs.Pairs.{both_there}
use Rattle.tool_commands.specs.Mapped.{mapped, mapped_in, mapped_text, mapped_value}
use Rattle.tree_core.specs.JsonOf.{json_of}
use Rattle.tree_core.specs.Limits.{has_long_part, is_too_large, objects_in}
use Rattle.tree_core.specs.Program.{IsProgram}
use Rattle.tree_core.specs.Reading.{tree_of}
use Rattle.tree_core.specs.Values.{value_of}
use Rattle.tree_nodes.specs.Tree.{Tree}

module _ (u : Tree) (m : Undoing) (p : IsProgram u) (s : IsMap m) (whole : HasNoLone (value_of u)) where
  node_readable : IsReadable (value_of u)
  node_readable = tree_readable (value_of u) u p.0 whole

  both_readable : IsReadable (mapped_value u m)
  both_readable = ((word_text (codes "node") refl).0, node_readable, ((word_text (codes "map") refl).0, map_readable m s, tt))

  -- ---- its lexemes are those of its value

  mapped_lexed : lex between (mapped_text u m) ≡ lexemes (raw (mapped_value u m))
  unfolding lex encode
  mapped_lexed =
      let t : List ℕ = text_of compact (value_of u) in
      let n : List ℕ = text_of compact (map_value m) ++ 125 ∷ [] in
      let node : List Lexeme = token tokens.begin_object ∷ token (tokens.string (text_in_units (codes "node"))) ∷ colon ∷ [] in
      let map : List Lexeme = comma ∷ token (tokens.string (text_in_units (codes "map"))) ∷ colon ∷ [] in
      ap (λ (ls : List Lexeme). token tokens.begin_object ∷ ls) (string_lexed (codes "node") (58 ∷ 10 ∷ (t ++ (10 ∷ 44 ∷ (quoted_units (codes "map") ++ (58 ∷ n))))) (word_text (codes "node") refl).0)
      ∙ ap (λ (ls : List Lexeme). node ++ ls) (value_lexed compact (value_of u) (10 ∷ 44 ∷ (quoted_units (codes "map") ++ (58 ∷ n))) node_readable refl
      ∙ ap (λ (ls : List Lexeme). lexemes (raw (value_of u)) ++ (comma ∷ ls)) (string_lexed (codes "map") (58 ∷ n) (word_text (codes "map") refl).0)
      ∙ ap (λ (ls : List Lexeme). lexemes (raw (value_of u)) ++ (map ++ ls)) (value_lexed compact (map_value m) (125 ∷ []) (map_readable m s) refl))

  pub mapped_utf8 : IsUtf8 (mapped_text u m)
  mapped_utf8 =
      IsUtf8-append (codes "{\"node\":\n") _ (IsUtf8-are_ascii (codes "{\"node\":\n") refl)
      (IsUtf8-append (text_of compact (value_of u)) _ (value_utf8 compact (value_of u) node_readable)
      (IsUtf8-append (codes "\n,\"map\":") _ (IsUtf8-are_ascii (codes "\n,\"map\":") refl)
      (IsUtf8-append (text_of compact (map_value m)) (codes "}") (value_utf8 compact (map_value m) (map_readable m s)) (IsUtf8-are_ascii (codes "}") refl))))

  pub mapped_parses : nesting (mapped_value u m) ≤ max_depth → read (mapped_text u m) ≡ Some (parsed_as (mapped_value u m))
  mapped_parses shallow = lexemes_read (mapped_text u m) (mapped_value u m) mapped_lexed both_readable shallow

  -- ---- it is within the limits

  lengths : (t n : List ℕ) → length (123 ∷ ((codes "\"node\":" ++ (t ++ (44 ∷ (codes "\"map\":" ++ (n ++ []))))) ++ 125 ∷ [])) + 2
      ≡ length (codes "{\"node\":\n" ++ (t ++ (codes "\n,\"map\":" ++ (n ++ codes "}"))))
  lengths t n =
      omega (
        arith,
        length-append (codes "\"node\":" ++ (t ++ (44 ∷ (codes "\"map\":" ++ (n ++ []))))) (125 ∷ []),
        length-append t (44 ∷ (codes "\"map\":" ++ (n ++ []))),
        length-append n [],
        length-append t (codes "\n,\"map\":" ++ (n ++ codes "}")),
        length-append n (codes "}"),
      )

  shorter : length (text_of compact (mapped_value u m)) + 2 ≡ length (mapped_text u m)
  unfolding encode
  shorter = lengths (text_of compact (value_of u)) (text_of compact (map_value m))

  pub mapped_within : length (mapped_text u m) < 2 ^ 30 → is_too_large (parsed_as (mapped_value u m)) 0 ≡ false
  unfolding is_too_large
  mapped_within short =
      let few : objects_in (parsed_as (mapped_value u m)) + 0 < 2 ^ 30 = omega (arith, short, shorter, objects_counted compact (mapped_value u m) both_readable) in
      let less : length (text_of compact (mapped_value u m)) < 2 ^ 30 = omega (arith, short, shorter) in
      ap (λ (b : Bool). b || has_long_part (parsed_as (mapped_value u m))) (lt-leb (2 ^ 30) (objects_in (parsed_as (mapped_value u m)) + 0) few)
      ∙ parts_short compact (mapped_value u m) both_readable less

  -- ---- it is read as the program and the map

  pub mapped_told : mapped_in (parsed_as (mapped_value u m)) ≡ Some (mapped u m)
  mapped_told =
      let node : parsed.Data = parsed_as (value_of u) in
      let map : parsed.Data = parsed_as (map_value m) in
      ap₂ (λ (k l : List ℕ). mapped_in (parsed.object (parsed.put l map (parsed.put k node parsed.no_members)))) (word_text (codes "node") refl).1 (word_text (codes "map") refl).1
      ∙ both_there mapped (tree_of (json_of node)) (map_of (json_of map)) u m (tree_read (value_of u) u node_readable p.0) (map_read m s)
