use Rattle.std.proofs.Common.{◌≡◌, ℕ, suc, List, [], ◌∷◌, ◌++◌, Bool, true, false, cond, map, ap, ◌∙◌, sym, refl, append_assoc, append-nil, arith, ◌-◌}
use Rattle.json_text.specs.Units.{units_of}
use Rattle.json_text.specs.Layout.{Layout, compact, pretty, deeper, shallower}
use Rattle.json_text.specs.Text.{text_of, members_text, items_text, before, key_text}
use Rattle.oxc_estree.specs.Out.{Out, Part, key, index, Meaning, fixes_text, front, path_inside, path_outside, path_text, wrote}
use Rattle.oxc_estree.specs.Open.{Field, OpenStruct, opened, add_fields, closed, members_of, field_marks, object_of, OpenList, opened_list, add_elements, closed_list, items_of, element_marks, list_of}
use Rattle.oxc_estree.proofs.Paths.{front-append}

pub shallower-deeper : (l : Layout) → shallower (deeper l) ≡ l
shallower-deeper compact = refl
shallower-deeper (pretty n) = let e : suc n - 1 ≡ n = omega arith in ap pretty e

pub fixes_text-append : (here : List Part) (a b : List (List Part)) → fixes_text here (a ++ b) ≡ fixes_text here a ++ fixes_text here b
fixes_text-append here [] b = refl
fixes_text-append here (m ∷ a) b =
    ap (λ (t : List ℕ). path_text (front (here ++ m)) ++ t) (fixes_text-append here a b) ∙ sym (append_assoc (path_text (front (here ++ m))) (fixes_text here a) (fixes_text here b))

pub fixes_text-under : (here : List Part) (p : Part) (ms : List (List Part)) → fixes_text here (map (λ m. p ∷ m) ms) ≡ fixes_text (here ++ p ∷ []) ms
fixes_text-under here p [] = refl
fixes_text-under here p (m ∷ ms) =
    let e : (here ++ p ∷ []) ++ m ≡ here ++ p ∷ m = append_assoc here (p ∷ []) m in
    let f : path_text (front (here ++ p ∷ m)) ≡ path_text (front ((here ++ p ∷ []) ++ m)) = ap (λ (q : List Part). path_text (front q)) (sym e) in
    let h = fixes_text-under here p ms in
    ap (λ (t : List ℕ). t ++ fixes_text here (map (λ m. p ∷ m) ms)) f ∙ ap (λ (t : List ℕ). path_text (front ((here ++ p ∷ []) ++ m)) ++ t) h

abbrev pub out_at : List ℕ → Layout → List Part → List ℕ → Bool → Bool → Bool → Out
out_at t l p x r ts rg = record { text = t; layout = l; path = p; fixes = x; records = r; ts = ts; ranges = rg }

out_at_eq : (t u : List ℕ) (l : Layout) (p q : List Part) (x y : List ℕ) (r ts rg : Bool) → t ≡ u → p ≡ q → x ≡ y → out_at t l p x r ts rg ≡ out_at u l q y r ts rg
out_at_eq t u l p q x y r ts rg a b c = cc

-- a member after others, and the rest
text_eq : (t a b c m z : List ℕ) → ((t ++ (a ++ b)) ++ c) ++ (m ++ z) ≡ t ++ ((a ++ (b ++ (c ++ m))) ++ z)
text_eq t a b c m z = simp append_assoc

-- an element after others, and the rest
element_eq : (t a c m z : List ℕ) → ((t ++ a) ++ c) ++ (m ++ z) ≡ t ++ ((a ++ (c ++ m)) ++ z)
element_eq t a c m z = simp append_assoc

-- a step into a field or element, and out of it
pub path_back : (r : Bool) (p : List Part) (k : Part) → path_outside r (path_inside r p k) ≡ p
path_back true p k = front-append p k
path_back false p k = refl

pub fixes_step : (r : Bool) (x : List ℕ) (p q : List Part) (k : Part) (a b : List (List Part)) → q ≡ p →
    cond r (cond r (x ++ fixes_text (path_inside r p k) a) x ++ fixes_text q b) (cond r (x ++ fixes_text (path_inside r p k) a) x)
    ≡ cond r (x ++ fixes_text p (map (λ m. k ∷ m) a ++ b)) x
fixes_step true x p q k a b e = rw (e, fixes_text-append p (map (λ m. k ∷ m) a) b, fixes_text-under p k a) (append_assoc x _ _)
fixes_step false x p q k a b e = refl

later : (fs : List Field) (l : Layout) (t : List ℕ) (p : List Part) (x : List ℕ) (r ts rg : Bool) →
    closed (add_fields (record { out = out_at t (deeper l) p x r ts rg; begun = true; first = false }) fs)
    ≡ out_at (t ++ (members_text false l (members_of fs) ++ 125 ∷ [])) l p (cond r (x ++ fixes_text p (field_marks fs)) x) r ts rg
later [] l t p x true ts rg = rw (shallower-deeper l, append-nil) refl
later [] l t p x false ts rg = rw (shallower-deeper l) refl
later (f ∷ fs) l t p x r ts rg =
    later fs l ((t ++ (before false (deeper l) ++ key_text (deeper l) (units_of f.name))) ++ text_of (deeper l) f.meaning.value)
    (path_outside r (path_inside r p (key f.name))) (cond r (x ++ fixes_text (path_inside r p (key f.name)) f.meaning.marks) x) r ts rg
    ∙ out_at_eq _ _ l _ _ _ _ r ts rg
    (text_eq t (before false (deeper l)) (key_text (deeper l) (units_of f.name)) (text_of (deeper l) f.meaning.value) (members_text false l (members_of fs)) (125 ∷ []))
    (path_back r p (key f.name))
    (fixes_step r x p (path_outside r (path_inside r p (key f.name))) (key f.name) f.meaning.marks (field_marks fs) (path_back r p (key f.name)))

struct_at : (fs : List Field) (t : List ℕ) (l : Layout) (p : List Part) (x : List ℕ) (r ts rg : Bool) →
    closed (add_fields (opened (out_at t l p x r ts rg)) fs) ≡ wrote (out_at t l p x r ts rg) (object_of fs)
struct_at [] t l p x true ts rg = rw (append-nil, append_assoc) refl
struct_at [] t l p x false ts rg = rw append_assoc refl
struct_at (f ∷ fs) t l p x r ts rg =
    later fs l (((t ++ 123 ∷ []) ++ (before true (deeper l) ++ key_text (deeper l) (units_of f.name))) ++ text_of (deeper l) f.meaning.value)
    (path_outside r (path_inside r p (key f.name))) (cond r (x ++ fixes_text (path_inside r p (key f.name)) f.meaning.marks) x) r ts rg
    ∙ out_at_eq _ _ l _ _ _ _ r ts rg
    (text_eq (t ++ 123 ∷ []) (before true (deeper l)) (key_text (deeper l) (units_of f.name)) (text_of (deeper l) f.meaning.value) (members_text false l (members_of fs)) (125 ∷ []) ∙ append_assoc t (123 ∷ []) _)
    (path_back r p (key f.name))
    (fixes_step r x p (path_outside r (path_inside r p (key f.name))) (key f.name) f.meaning.marks (field_marks fs) (path_back r p (key f.name)))

pub closes_struct : (fs : List Field) (o : Out) → closed (add_fields (opened o) fs) ≡ wrote o (object_of fs)
closes_struct fs o = struct_at fs o.text o.layout o.path o.fixes o.records o.ts o.ranges

later_list : (ms : List Meaning) (i : ℕ) (l : Layout) (t : List ℕ) (p : List Part) (x : List ℕ) (r ts rg : Bool) →
    closed_list (add_elements (record { out = out_at t (deeper l) p x r ts rg; begun = true; count = suc i }) ms)
    ≡ out_at (t ++ (items_text false l (items_of ms) ++ 93 ∷ [])) l p (cond r (x ++ fixes_text p (element_marks (suc i) ms)) x) r ts rg
later_list [] i l t p x true ts rg = rw (shallower-deeper l, append-nil) refl
later_list [] i l t p x false ts rg = rw (shallower-deeper l) refl
later_list (m ∷ ms) i l t p x r ts rg =
    later_list ms (suc i) l ((t ++ before false (deeper l)) ++ text_of (deeper l) m.value)
    (path_outside r (path_inside r p (index (suc i)))) (cond r (x ++ fixes_text (path_inside r p (index (suc i))) m.marks) x) r ts rg
    ∙ out_at_eq _ _ l _ _ _ _ r ts rg
    (element_eq t (before false (deeper l)) (text_of (deeper l) m.value) (items_text false l (items_of ms)) (93 ∷ []))
    (path_back r p (index (suc i)))
    (fixes_step r x p (path_outside r (path_inside r p (index (suc i)))) (index (suc i)) m.marks (element_marks (suc (suc i)) ms) (path_back r p (index (suc i))))

list_at : (ms : List Meaning) (t : List ℕ) (l : Layout) (p : List Part) (x : List ℕ) (r ts rg : Bool) →
    closed_list (add_elements (opened_list (out_at t l p x r ts rg)) ms) ≡ wrote (out_at t l p x r ts rg) (list_of ms)
list_at [] t l p x true ts rg = rw (append-nil, append_assoc) refl
list_at [] t l p x false ts rg = rw append_assoc refl
list_at (m ∷ ms) t l p x r ts rg =
    later_list ms 0 l (((t ++ 91 ∷ []) ++ before true (deeper l)) ++ text_of (deeper l) m.value)
    (path_outside r (path_inside r p (index 0))) (cond r (x ++ fixes_text (path_inside r p (index 0)) m.marks) x) r ts rg
    ∙ out_at_eq _ _ l _ _ _ _ r ts rg
    (element_eq (t ++ 91 ∷ []) (before true (deeper l)) (text_of (deeper l) m.value) (items_text false l (items_of ms)) (93 ∷ []) ∙ append_assoc t (91 ∷ []) _)
    (path_back r p (index 0))
    (fixes_step r x p (path_outside r (path_inside r p (index 0))) (index 0) m.marks (element_marks 1 ms) (path_back r p (index 0)))

pub closes_list : (ms : List Meaning) (o : Out) → closed_list (add_elements (opened_list o) ms) ≡ wrote o (list_of ms)
closes_list ms o = list_at ms o.text o.layout o.path o.fixes o.records o.ts o.ranges

-- a list that was opened just now
pub list_begins : (o : Out) (s : OpenList) (ms : List Meaning) → s ≡ opened_list o → closed_list (add_elements s ms) ≡ wrote o (list_of ms)
list_begins o s ms e = rw e (closes_list ms o)

-- what is left by a struct that was opened, given its fields and ended
pub struct_ends : (o : Out) (fs : List Field) (s : OpenStruct) → s ≡ add_fields (opened o) fs → closed s ≡ wrote o (object_of fs)
struct_ends o fs s e = rw e (closes_struct fs o)
