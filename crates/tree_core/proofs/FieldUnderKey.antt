-- A field is read from the member under its key.
use Rattle.std.proofs.Common.{◌≡◌, Bool, true, false, Option, Some, None, if◌then◌else◌, refl, sym, ap, ◌∙◌, bytes_eq}
use Rattle.json_text.specs.Json.{Json, Members, no_members, member}
use Rattle.tree_core.specs.Readable.{field_from}
use Rattle.tree_core.specs.Reading.{absent, find_member, list_of, outer_key, part_from, part_in, shape_of}
use Rattle.tree_nodes.specs.Table.{Column}
use Rattle.tree_nodes.specs.Tree.{Parts}

-- the part of a column that a value is, or that a missing one is
abbrev pub part_found : Column → Option Json → Option Parts
part_found c None = absent c.class
part_found c (Some d) = part_from c.class c.key d (shape_of d) (list_of d)

found_or : (c : Column) (b : Bool) (d : Json) (rest : Option Parts) (o : Option Json) → rest ≡ part_found c o
    → (if b then part_from c.class c.key d (shape_of d) (list_of d) else rest) ≡ part_found c (if b then Some d else o)
found_or c true d rest o e = refl
found_or c false d rest o e = e

pub part_in-part_found : (ms : Members) (c : Column) → part_in ms c ≡ part_found c (find_member (outer_key c) ms)
part_in-part_found no_members c = refl
part_in-part_found (member k d ms) c =
    found_or c (bytes_eq k (outer_key c)) d (part_in ms c) (find_member (outer_key c) ms) (part_in-part_found ms c)

pub part_in-found : (ms : Members) (c : Column) (d : Json) → Some d ≡ find_member (outer_key c) ms → part_in ms c ≡ field_from c d
part_in-found ms c d e = part_in-part_found ms c ∙ ap (part_found c) (sym e)

pub part_in-missing : (ms : Members) (c : Column) → None ≡ find_member (outer_key c) ms → part_in ms c ≡ absent c.class
part_in-missing ms c e = part_in-part_found ms c ∙ ap (part_found c) (sym e)
