-- What `map` answers, by what its calls do.
use Rattle.std.proofs.Common.{◌≡◌, ℕ, List, subst}
use Rattle.mangle_options.specs.declared.options.MangleOptions.{MangleOptions}
use Rattle.mangle_tool.specs.Answer.{IsProgramCause, IsReadFrom}
use Rattle.mangle_tool.specs.Asked.{Asked}
use Rattle.mangle_tool.specs.Mangling.{IsMangling, options_for}
use Rattle.mangle_tool.specs.declared.estree.error.MangleError.{MangleError}
use Rattle.name_map.specs.Filled.{apply_map}
use Rattle.name_map.specs.Fits.{Fits}
use Rattle.name_map.specs.Made.{IsMapOf}
use Rattle.name_map.specs.Undoing.{Undoing}
use Rattle.name_map.specs.Written.{IsMap}
use Rattle.tool_commands.specs.Map.{IsMapAnswer, IsMapText}
use Rattle.tool_commands.specs.Mapped.{mapped_text}
use Rattle.tree_nodes.specs.Tree.{Tree, alone}
use Rattle.tree_places.specs.Renaming.{IsRenamed}

module _ (o : MangleOptions) (t copy : Tree) (same : copy ≡ t) where
  -- a copy of the program was mangled
  pub copy_renamed : (u : Tree) → IsMangling (options_for o copy) copy u → IsRenamed (alone t) (alone u)
  copy_renamed u m = subst (λ (x : Tree). IsRenamed (alone x) (alone u)) same m.mangled.renamed

  pub is_map_text : (u : Tree) (m : Undoing) (text : List ℕ) → IsMangling (options_for o copy) copy u → IsMapOf t u m → IsMap m → Fits u m → apply_map u m ≡ t
      → text ≡ mapped_text u m → IsMapText (options_for o t) t text
  is_map_text u m text mangles is_map sized fits restores text_is = record {
    output = u;
    mangles = subst (λ (x : Tree). IsMangling (options_for o x) x u) same mangles;
    undoing = m;
    is_map = is_map;
    sized = sized;
    fits = fits;
    restores = restores;
    text_is = text_is;
  }

  pub copy_cause : (e : MangleError) → IsProgramCause e copy → IsProgramCause e t
  copy_cause e cause = subst (λ (x : Tree). IsProgramCause e x) same cause

-- so the text answers the input of which t is the program
pub is_map_answer : (a : Asked) (input : List ℕ) (t : Tree) (text : List ℕ) → IsReadFrom a.reserved input t → IsMapText (a.options t) t text → IsMapAnswer a input text
is_map_answer a input t text read answer = record { tree = t; read = read; answer = answer }
