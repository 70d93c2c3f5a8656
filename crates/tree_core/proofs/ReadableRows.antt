-- Each row has columns that the reader takes.
use Rattle.std.proofs.Common.{◌≡◌, ℕ, List, [], ◌∷◌, Bool, true, false, Bor, Option, None, Some, IfSome, bytes_eq, map, option_map, IsTrue, if◌then◌else◌, refl, sym, ap, ◌∙◌}
use Rattle.std.specs.List.{list_all}
use Rattle.std.proofs.lemmas.Bool.{and_parts}
use Rattle.tree_nodes.proofs.EachKind.{of_each}
use Rattle.tree_nodes.specs.declared.kind.Kind.{Kind}
use Rattle.tree_nodes.specs.Kinds.{all_kinds}
use Rattle.tree_core.specs.Readable.{are_readable}
use Rattle.tree_nodes.specs.Rows.{column_of, row_of}
use Rattle.tree_nodes.specs.Table.{Row, row, row_among, row_named}
use Rattle.tree_nodes.specs.declared.table.Row.{Row as RustRow}

abbrev reads_row : Kind → Bool
reads_row k = are_readable (row k).columns

all_rows : list_all reads_row all_kinds ≡ true
all_rows = refl

-- the columns of a kind
pub columns_readable : (k : Kind) → are_readable (row k).columns ≡ true
columns_readable k = of_each reads_row all_rows refl k

found_at : (b : Bool) (k : Kind) (rest : Option Row) (r : Row) → (if b then Some (row k) else rest) ≡ Some r → reads_row k ≡ true
    → (rest ≡ Some r → IsTrue (are_readable r.columns)) → IsTrue (are_readable r.columns)
found_at true k rest r e readable later =
    let same : row k ≡ r = cc in
    ap (λ (x : Row). are_readable x.columns) (sym same) ∙ readable
found_at false k rest r e readable later = later e

readable_among : (ks : List Kind) (name : List ℕ) (r : Row) → row_among ks name ≡ Some r → list_all reads_row ks ≡ true → IsTrue (are_readable r.columns)
readable_among [] name r e all = absurd (cc)
readable_among (k ∷ ks) name r e all =
    let parts = and_parts (reads_row k) (list_all reads_row ks) all in
    found_at (bytes_eq (row k).name name) k (row_among ks name) r e parts.0 (λ later. readable_among ks name r later parts.1)

row_readable : (name : List ℕ) (r : Row) → row_named name ≡ Some r → IsTrue (are_readable r.columns)
row_readable name r e = readable_among all_kinds name r e all_rows

-- the row that was found by a name
pub rows_readable : (found : Option (Bor RustRow)) (name : List ℕ) → option_map (λ r. row_of r.now) found ≡ row_named name
    → IfSome found (λ r. IsTrue (are_readable (map column_of r.now.columns.now)))
rows_readable None name e = tt
rows_readable (Some r) name e = row_readable name (row_of r.now) (sym e)
