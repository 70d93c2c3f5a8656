-- What is read of words, one after another.
use Rattle.std.proofs.Common.{◌≡◌, ◌≤◌, ◌<◌, ◌+◌, ℕ, Bool, true, false, List, [], Some, None, option_and_then, option_map, length, get_or, drop, bytes_eq, codes, refl, sym, ap, ◌∙◌, subst, if◌then◌else◌}
use Rattle.std.proofs.lemmas.List.{drop_more}
use Rattle.std.proofs.Math.ListN.{drop_of_length-le}
use Rattle.mangle_options.specs.Settings.{reserved_in}
use Rattle.mangle_options.specs.declared.options.MangleOptions.{MangleOptions}
use Rattle.scope_rules.specs.PrivateNames.{is_among}
use Rattle.tree_nodes.specs.Tree.{Text}
use Rattle.tool_words.proofs.Names.{listed_put}
use Rattle.tool_words.specs.Readings.{HasPut, IsRead, IsReadNext}
use Rattle.tool_words.specs.Words as spec
use Rattle.tool_words.specs.Words.{AreAsked, AreListed, Flags, HasSettings, Settings, flags_in, flags_with, no_settings, read_word, reading, reserve, settings_from, settings_of}
use Rattle.tool_words.specs.declared.command.Layout.{Layout}
use Rattle.tool_words.specs.declared.command.Layout.TheVariants.{Compact}
use Rattle.tool_words.specs.declared.options.Reading.{Reading}

-- ---- one word

module _ (layouts : Bool) (r : spec.Reading) (w : Text) where
  word_reserved : r.reserves ≡ true → read_word layouts r w ≡ Some (reading (reserve r.settings w) false)
  unfolding read_word
  word_reserved e = rw e refl

  word_reserves : r.reserves ≡ false → bytes_eq w (codes "--reserve") ≡ true → read_word layouts r w ≡ Some (reading r.settings true)
  unfolding read_word
  word_reserves e h = rw (e, h) refl

  word_sets : r.reserves ≡ false → bytes_eq w (codes "--reserve") ≡ false
      → read_word layouts r w ≡ option_map (λ (f : Flags). reading (record r.settings { flags = f }) false) (flags_with layouts r.settings.flags w)
  unfolding read_word
  word_sets e h = rw (e, h) refl

  -- by what the code has read before and after
  pub name_taken : (x y : Reading) → IsRead r x → x.reserves ≡ true → HasPut w (reserved_in x.options) (reserved_in y.options) → flags_in y.options y.layout ≡ flags_in x.options x.layout
      → y.reserves ≡ false → IsReadNext (read_word layouts r w) y
  name_taken x y so_far e put same done = record {
    reading = reading (reserve r.settings w) false;
    is = word_reserved (sym so_far.reserves ∙ e);
    read = record {
      has = record {
        flags = same ∙ so_far.has.flags;
        reserved = listed_put w (reserved_in x.options) (reserved_in y.options) r.settings.reserved so_far.has.reserved put;
      };
      reserves = done;
    };
  }

  pub reserve_taken : (x y : Reading) → IsRead r x → x.reserves ≡ false → bytes_eq w (codes "--reserve") ≡ true → y.options ≡ x.options → y.layout ≡ x.layout → y.reserves ≡ true
      → IsReadNext (read_word layouts r w) y
  reserve_taken x y so_far e h o l done = record {
    reading = reading r.settings true;
    is = word_reserves (sym so_far.reserves ∙ e) h;
    read = record {
      has = subst (λ (p : MangleOptions). HasSettings r.settings p y.layout) (sym o) (subst (λ (p : Layout). HasSettings r.settings x.options p) (sym l) so_far.has);
      reserves = done;
    };
  }

  pub flag_taken : (x y : Reading) → IsRead r x → x.reserves ≡ false → bytes_eq w (codes "--reserve") ≡ false
      → flags_with layouts (flags_in x.options x.layout) w ≡ Some (flags_in y.options y.layout) → reserved_in y.options ≡ reserved_in x.options → y.reserves ≡ false
      → IsReadNext (read_word layouts r w) y
  flag_taken x y so_far e h set kept done = record {
    reading = reading (record r.settings { flags = flags_in y.options y.layout }) false;
    is = word_sets (sym so_far.reserves ∙ e) h
        ∙ ap (λ (f : Flags). option_map (λ (g : Flags). reading (record r.settings { flags = g }) false) (flags_with layouts f w)) (sym so_far.has.flags)
        ∙ ap (option_map (λ (g : Flags). reading (record r.settings { flags = g }) false)) set;
    read = record {
      has = record {
        flags = refl;
        reserved = subst (λ (names : List Text). AreListed names r.settings.reserved) (sym kept) so_far.has.reserved;
      };
      reserves = done;
    };
  }

  pub not_taken : (x : Reading) → IsRead r x → x.reserves ≡ false → bytes_eq w (codes "--reserve") ≡ false → flags_with layouts (flags_in x.options x.layout) w ≡ None
      → read_word layouts r w ≡ None
  not_taken x so_far e h none =
      word_sets (sym so_far.reserves ∙ e) h
      ∙ ap (λ (f : Flags). option_map (λ (g : Flags). reading (record r.settings { flags = g }) false) (flags_with layouts f w)) (sym so_far.has.flags)
      ∙ ap (option_map (λ (g : Flags). reading (record r.settings { flags = g }) false)) none

-- ---- the first i words

pub record AreRead (layouts : Bool) (ws : List Text) (i : ℕ) (x : Reading) : Type 0 where
  pub so_far : spec.Reading
  pub read : IsRead so_far x
  pub rest : settings_of layouts ws ≡ settings_from layouts so_far (drop i ws)

pub none_read : (layouts : Bool) (ws : List Text) (x : Reading) → x.options.top_level ≡ None → x.options.keep_names.function ≡ false → x.options.keep_names.class ≡ false
    → reserved_in x.options ≡ [] → x.options.debug ≡ false → x.layout ≡ Compact → x.reserves ≡ false → AreRead layouts ws 0 x
none_read layouts ws x top function class reserved debug layout reserves = record {
  so_far = reading no_settings false;
  read = record {
    has = record {
      flags = cc;
      reserved = record { same = λ y. ap (λ (names : List Text). is_among names y) reserved; many = ap length reserved };
    };
    reserves = reserves;
  };
  rest = refl;
}

module _ (layouts : Bool) (ws : List Text) (i : ℕ) (w : Text) (h : i < length ws) (is : w ≡ get_or ws i w) (x : Reading) (a : AreRead layouts ws i x) where
  first_left : settings_of layouts ws ≡ option_and_then (λ q. settings_from layouts q (drop (i + 1) ws)) (read_word layouts a.so_far w)
  unfolding settings_from
  first_left =
      a.rest ∙ ap (settings_from layouts a.so_far) (drop_more ws i w h)
      ∙ ap (λ (v : Text). option_and_then (λ q. settings_from layouts q (drop (i + 1) ws)) (read_word layouts a.so_far v)) (sym is)

  pub one_read : (y : Reading) → IsReadNext (read_word layouts a.so_far w) y → AreRead layouts ws (i + 1) y
  one_read y n = record {
    so_far = n.reading;
    read = n.read;
    rest = first_left ∙ ap (option_and_then (λ q. settings_from layouts q (drop (i + 1) ws))) n.is;
  }

  pub one_refused : read_word layouts a.so_far w ≡ None → settings_of layouts ws ≡ None
  one_refused e = first_left ∙ ap (option_and_then (λ q. settings_from layouts q (drop (i + 1) ws))) e

module _ (layouts : Bool) (ws : List Text) (i : ℕ) (h : length ws ≤ i) (x : Reading) (a : AreRead layouts ws i x) where
  none_left : settings_of layouts ws ≡ (if x.reserves then None else Some a.so_far.settings)
  unfolding settings_from
  none_left =
      a.rest ∙ ap (settings_from layouts a.so_far) (drop_of_length-le ws h)
      ∙ ap (λ (b : Bool). if b then None else Some a.so_far.settings) (sym a.read.reserves)

  pub name_missing : x.reserves ≡ true → settings_of layouts ws ≡ None
  name_missing e = none_left ∙ ap (λ (b : Bool). if b then None else Some a.so_far.settings) e

  pub all_read : x.reserves ≡ false → AreAsked (settings_of layouts ws) x.options x.layout
  all_read e = record {
    settings = a.so_far.settings;
    asked_for = none_left ∙ ap (λ (b : Bool). if b then None else Some a.so_far.settings) e;
    has = a.read.has;
  }
