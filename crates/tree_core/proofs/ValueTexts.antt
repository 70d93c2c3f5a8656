-- Each string of a value is a text in UTF-8.
use Rattle.std.proofs.Common.{List, [], ◌∷◌, map, String, Global, IsUtf8, sym, subst}
use Rattle.std.proofs.lemmas.Str.{IsUtf8-string_bytes}
use Rattle.serde_json.specs.Data as parsed
use Rattle.serde_json.specs.View.{items_of, members_of, view, view_step}
use Rattle.serde_json.specs.declared.value.Value.{Value, fold-roll-Value, ind-Value, map-Value}
use Rattle.serde_json.specs.declared.value.Value.TheOpen.{Value-F}

abbrev mutual
  pub AreTexts : parsed.Data → Type 0
  AreTexts parsed.null = Unit {0}
  AreTexts (parsed.boolean b) = Unit {0}
  AreTexts (parsed.number n) = Unit {0}
  AreTexts (parsed.string s) = IsUtf8 s
  AreTexts (parsed.array ds) = AreItemTexts ds
  AreTexts (parsed.object ms) = AreMemberTexts ms

  pub AreItemTexts : parsed.Items → Type 0
  AreItemTexts parsed.no_items = Unit {0}
  AreItemTexts (parsed.item d ds) = AreTexts d × AreItemTexts ds

  pub AreMemberTexts : parsed.Members → Type 0
  AreMemberTexts parsed.no_members = Unit {0}
  AreMemberTexts (parsed.member k d ms) = AreTexts d × AreMemberTexts ms

abbrev HasTexts : Value → Type 0
HasTexts v = AreTexts (view v)

item_texts : (vs : List ((v : Value) × HasTexts v)) → AreItemTexts (items_of (map view (map (λ (e : (v : Value) × HasTexts v). e.0) vs)))
item_texts [] = tt
item_texts (e ∷ vs) = (e.1, item_texts vs)

member_texts : (ms : List (String Global × ((v : Value) × HasTexts v))) → AreMemberTexts (members_of (map (λ (m : String Global × Value). (m.0, view m.1)) (map (λ (m : String Global × ((v : Value) × HasTexts v)). (m.0, m.1.0)) ms)))
member_texts [] = tt
member_texts (m ∷ ms) = (m.1.1, member_texts ms)

step : (y : Value-F ((v : Value) × HasTexts v)) → AreTexts (view_step (map-Value Value parsed.Data view (map-Value ((v : Value) × HasTexts v) Value (λ (e : (v : Value) × HasTexts v). e.0) y)))
step Value-F.Null = tt
step (Value-F.Bool b) = tt
step (Value-F.Number n) = tt
step (Value-F.String s) = IsUtf8-string_bytes s
step (Value-F.Array vs) = item_texts vs.items
step (Value-F.Object ms) = member_texts ms.entries

-- y is x with a proof beside each inner value
pub value_texts : (v : Value) → AreTexts (view v)
value_texts = ind-Value HasTexts (λ x y is.
    subst AreTexts (sym (fold-roll-Value parsed.Data view_step x)) (subst (λ (z : Value-F Value). AreTexts (view_step (map-Value Value parsed.Data view z))) is (step y)))
