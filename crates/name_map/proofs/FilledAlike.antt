-- A filled run differs in names and shorthand marks alone; and where it had others before doesn't matter.
use Rattle.std.proofs.Common.{◌≡◌, ℕ, suc, ◌+◌, Bool, if◌then◌else◌, refl, sym, ap, ap₂, ◌∙◌}
use Rattle.name_map.specs.Filled.{Given, after, called, filled, first_mark, first_name, flag_put, given, inside, own_filled, properties}
use Rattle.tree_nodes.specs.Tree.{Parts, Text, atom, child, done, flag, many, text}
use Rattle.tree_nodes.specs.declared.kind.Kind.{Kind}
use Rattle.tree_nodes.specs.declared.kind.Kind.TheVariants.{Identifier, PrivateIdentifier, Property}
use Rattle.tree_places.specs.Places.{hide, unmarked, unnamed}
use Rattle.tree_places.specs.Renaming.{blind, is_property}
use Rattle.tree_rename.specs.Formed.{AreFormed, HasPair, HasText, IsFormed}
use Rattle.tree_rename.specs.Renamed.{count, has_name}

-- the fields of a node keep their form
filled_text : (g : Given) (fields : Parts) → HasText fields → HasText (filled g fields)
unfolding filled
filled_text g (atom (text x) done) h = tt
filled_text g _ h = absurd h

pub filled_pair : (g : Given) (fields : Parts) → HasPair fields → HasPair (filled g fields)
unfolding filled
filled_pair g (atom kind (child k s e key (child k' s' e' value (atom method (atom (flag mark) (atom computed done)))))) h = tt
filled_pair g _ h = absurd h

pub filled_formed : (g : Given) (k : Kind) (fields : Parts) → IsFormed k fields → IsFormed k (filled g fields)
filled_formed g Identifier fields h = filled_text g fields h
filled_formed g PrivateIdentifier fields h = filled_text g fields h
filled_formed g Property fields h = filled_pair g fields h
filled_formed g _ fields h = tt

-- ---- the look of a filled run

called_blind : (x : Text) (fields : Parts) → unnamed (blind (called x fields)) ≡ unnamed (blind fields)
unfolding blind called unnamed
called_blind x (atom (text y) more) = refl
called_blind x _ = refl

put_blind : (b : Bool) (fields : Parts) → HasPair fields → unmarked (blind (flag_put 4 b fields)) ≡ unmarked (blind fields)
unfolding blind flag_put unmarked
put_blind b (atom kind (child k s e key (child k' s' e' value (atom method (atom (flag mark) (atom computed done)))))) h = refl
put_blind b _ h = absurd h

own_blind : (k : Kind) (g : Given) (fields : Parts) → IsFormed k fields → hide k (blind (own_filled k g fields)) ≡ hide k (blind fields)
unfolding hide own_filled
own_blind Identifier g fields h = called_blind _ fields
own_blind PrivateIdentifier g fields h = called_blind _ fields
own_blind Property g fields h = put_blind _ fields h
own_blind _ g fields h = refl

pub filled_alike : (g : Given) (p : Parts) → AreFormed p → blind (filled g p) ≡ blind p
unfolding blind filled
filled_alike g done h = refl
filled_alike g (atom a more) h = ap (atom a) (filled_alike g more h)
filled_alike g (many items more) h = ap₂ many (filled_alike g items h.0) (filled_alike (after items g) more h.1)
filled_alike g (child k s e fields more) h =
    ap₂ (child k s e)
    (own_blind k g (filled (inside k g) fields) (filled_formed (inside k g) k fields h.0) ∙ ap (hide k) (filled_alike (inside k g) fields h.1))
    (filled_alike (after fields (inside k g)) more h.2)

-- ---- as many places and Properties

count_unnamed : (x : Parts) → count (unnamed x) ≡ count x
unfolding count unnamed
count_unnamed (atom (text t) more) = refl
count_unnamed _ = refl

count_unmarked : (x : Parts) → count (unmarked x) ≡ count x
unfolding count unmarked
count_unmarked (atom kind (child k s e key (child k' s' e' value (atom method (atom (flag mark) more))))) = refl
count_unmarked _ = refl

count_hide : (k : Kind) (x : Parts) → count (hide k x) ≡ count x
unfolding hide
count_hide Identifier x = count_unnamed x
count_hide PrivateIdentifier x = count_unnamed x
count_hide Property x = count_unmarked x
count_hide _ x = refl

pub count_blind : (x : Parts) → count (blind x) ≡ count x
unfolding blind count
count_blind done = refl
count_blind (atom a more) = count_blind more
count_blind (many items more) = ap₂ (λ a b. a + b) (count_blind items) (count_blind more)
count_blind (child k s e fields more) =
    ap₂ (λ a b. (if has_name k then suc a else a) + b) (count_hide k (blind fields) ∙ count_blind fields) (count_blind more)

properties_unnamed : (x : Parts) → properties (unnamed x) ≡ properties x
unfolding properties unnamed
properties_unnamed (atom (text t) more) = refl
properties_unnamed _ = refl

properties_unmarked : (x : Parts) → properties (unmarked x) ≡ properties x
unfolding properties unmarked
properties_unmarked (atom kind (child k s e key (child k' s' e' value (atom method (atom (flag mark) more))))) = refl
properties_unmarked _ = refl

properties_hide : (k : Kind) (x : Parts) → properties (hide k x) ≡ properties x
unfolding hide
properties_hide Identifier x = properties_unnamed x
properties_hide PrivateIdentifier x = properties_unnamed x
properties_hide Property x = properties_unmarked x
properties_hide _ x = refl

pub properties_blind : (x : Parts) → properties (blind x) ≡ properties x
unfolding blind properties
properties_blind done = refl
properties_blind (atom a more) = properties_blind more
properties_blind (many items more) = ap₂ (λ a b. a + b) (properties_blind items) (properties_blind more)
properties_blind (child k s e fields more) =
    ap₂ (λ a b. (if is_property k then suc a else a) + b) (properties_hide k (blind fields) ∙ properties_blind fields) (properties_blind more)

after_hidden : (k : Kind) (fields : Parts) (g : Given) → after (hide k (blind fields)) g ≡ after fields g
after_hidden k fields g =
    let counted : count (hide k (blind fields)) ≡ count fields = count_hide k (blind fields) ∙ count_blind fields in
    let also : properties (hide k (blind fields)) ≡ properties fields = properties_hide k (blind fields) ∙ properties_blind fields in
    rw (counted, also) refl

after_blind : (p : Parts) (g : Given) → after (blind p) g ≡ after p g
after_blind p g = rw (count_blind p, properties_blind p) refl

-- ---- what was there doesn't matter

called_unnamed : (x : Text) (g : Given) (p : Parts) → called x (filled g (unnamed p)) ≡ called x (filled g p)
unfolding called filled unnamed
called_unnamed x g (atom (text y) more) = refl
called_unnamed x g _ = refl

put_unmarked : (b : Bool) (g : Given) (p : Parts) → flag_put 4 b (filled g (unmarked p)) ≡ flag_put 4 b (filled g p)
unfolding filled flag_put unmarked
put_unmarked b g (atom kind (child k s e key (child k' s' e' value (atom method (atom (flag mark) more))))) = refl
put_unmarked b g _ = refl

own_hidden : (k : Kind) (g h : Given) (p : Parts) → own_filled k g (filled h (hide k p)) ≡ own_filled k g (filled h p)
unfolding hide own_filled
own_hidden Identifier g h p = called_unnamed _ h p
own_hidden PrivateIdentifier g h p = called_unnamed _ h p
own_hidden Property g h p = put_unmarked _ h p
own_hidden _ g h p = refl

pub filled_blind : (g : Given) (p : Parts) → filled g (blind p) ≡ filled g p
unfolding blind filled
filled_blind g done = refl
filled_blind g (atom a more) = ap (atom a) (filled_blind g more)
filled_blind g (many items more) =
    ap₂ many (filled_blind g items) (ap (λ h. filled h (blind more)) (after_blind items g) ∙ filled_blind (after items g) more)
filled_blind g (child k s e fields more) =
    ap₂ (child k s e)
    (own_hidden k g (inside k g) (blind fields) ∙ ap (own_filled k g) (filled_blind (inside k g) fields))
    (ap (λ h. filled h (blind more)) (after_hidden k fields (inside k g)) ∙ filled_blind (after fields (inside k g)) more)
