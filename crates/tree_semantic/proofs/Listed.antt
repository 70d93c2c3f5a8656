-- A list of places whose nodes are taken away: all else stays as it was.
use Rattle.std.proofs.Common.{Vec, Global}
use Rattle.place_list.specs.Bounds.{IsBounded, IsKnown}
use Rattle.place_list.specs.TableViews.{list_view}
use Rattle.place_list.specs.declared.setting.Setting.{Setting}
use Rattle.place_list.specs.declared.tables.NodeEntry.{NodeEntry}
use Rattle.place_list.specs.declared.tables.PlaceList.{PlaceList}
use Rattle.tree_symbols.proofs.Rising.{all_weaken}

module _ (l : PlaceList) (nodes : Vec NodeEntry Global) where
  abbrev left : PlaceList
  left = record l { node_entries = nodes }

  still_known : (e : Setting) → IsKnown (list_view l) e → IsKnown (list_view left) e
  still_known e k = record { scope = k.scope; var_scope = k.var_scope; class_body = k.class_body; head = k.head; has_var_scope = k.has_var_scope }

  pub still_bounded : IsBounded (list_view l) → IsBounded (list_view left)
  still_bounded b = record {
    places = all_weaken (λ e. IsKnown (list_view l) e.setting) (λ e. IsKnown (list_view left) e.setting) (λ e k. still_known e.setting k) (list_view l).places b.places;
    withs = b.withs;
    var_scopes = b.var_scopes;
    scopes = b.scopes;
    class_bodies = b.class_bodies;
    heads = b.heads;
    var_scope_numbers = b.var_scope_numbers;
    head_scopes = b.head_scopes;
  }
