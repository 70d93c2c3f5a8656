-- What is written of a program that is mangled, and what an error says of the input that it was read from.
use Rattle.std.proofs.Common.{◌≡◌, ℕ, ◌+◌, ◌<◌, ◌^◌, false, List, Some, length, sym, subst}
use Rattle.json_text.specs.Grammar.{Reads}
use Rattle.json_text.specs.Layout.{Layout}
use Rattle.name_rules.specs.MangledLaws.{HasNewNames}
use Rattle.name_rules.specs.Options.{Options}
use Rattle.oxc_estree.specs.Envelope.{envelope}
use Rattle.program_laws.proofs.Programs.{programs_are_rooted, programs_get_least_names}
use Rattle.program_laws.specs.Least.{IsLeast}
use Rattle.serde_json.specs.Data.{Data}
use Rattle.tree_core.proofs.PathTexts.{wrapped_programs_read}
use Rattle.tree_core.specs.Limits.{is_too_large}
use Rattle.tree_core.specs.Values.{meaning_of, wrapped_value}
use Rattle.tree_nodes.specs.NodeCount.{node_count}
use Rattle.tree_nodes.specs.Tree.{Tree, alone}
use Rattle.mangle_tool.specs.Answer.{IsAnswer, IsAnswerTo, IsCauseFor, IsCauseOf, IsProgramCause, IsReadFrom, IsTreeAnswer}
use Rattle.mangle_tool.specs.Asked.{Asked}
use Rattle.mangle_tool.specs.Input.{Parses}
use Rattle.mangle_tool.specs.Mangling.{IsMangling, tree_in}
use Rattle.mangle_tool.specs.Output.{IsOutput}
use Rattle.mangle_tool.specs.declared.estree.error.MangleError.{MangleError}
use Rattle.mangle_tool.specs.declared.estree.error.MangleError.TheVariants.{NotJson, TooLarge, BadTree, BadScope, Memory}

-- its text reads as it
is_output : (o : Options) (l : Layout) (t u : Tree) (text : List ℕ) → IsMangling o t u → text ≡ envelope l (meaning_of u) → IsOutput t o text
is_output o l t u text m e = record {
  output = u;
  reads = subst (λ x. Reads x (wrapped_value u)) (sym e) (wrapped_programs_read l u m.program).0;
  is_tree = m.program.0;
  mangled = m.mangled;
}

-- no names do better
is_least : (o : Options) (t u : Tree) → node_count t + length o.reserved < 2 ^ 30 → IsMangling o t u → IsLeast (alone t) o (alone u)
is_least o t u few m =
    let has : HasNewNames o (alone t) (alone u) = record { rooted = programs_are_rooted t m.of_program; renamed = m.mangled.renamed; names = m.names } in
    programs_get_least_names t u o m.of_program few has

pub is_tree_answer : (o : Options) (l : Layout) (t u : Tree) (text : List ℕ) → node_count t + length o.reserved < 2 ^ 30 → IsMangling o t u → text ≡ envelope l (meaning_of u) → IsTreeAnswer o l t text
unfolding is_output
is_tree_answer o l t u text few m e = record {
  output = is_output o l t u text m e;
  mangles = m;
  least = is_least o t u few m;
  text_is = e;
}

-- so it is the answer to the value, and to the input, of which the tree is the program
pub answer_to_value : (a : Asked) (value : Data) (t : Tree) (text : List ℕ) → is_too_large value a.reserved ≡ false → tree_in value ≡ Some t
    → IsTreeAnswer (a.options t) a.layout t text → IsAnswerTo a value text
answer_to_value a value t text within is_tree answer = record { tree = t; within = within; is_tree = is_tree; answer = answer }

pub answer_to_input : (a : Asked) (input : List ℕ) (t : Tree) (text : List ℕ) → IsReadFrom a.reserved input t → IsTreeAnswer (a.options t) a.layout t text → IsAnswer a input text
answer_to_input a input t text read answer = record {
  value = read.value;
  parses = read.parses;
  answer = answer_to_value a read.value t text read.within read.is_tree answer;
}

-- ---- errors

-- of the program in a value
pub cause_for_value : (reserved : ℕ) (value : Data) (t : Tree) (e : MangleError) → is_too_large value reserved ≡ false → tree_in value ≡ Some t → IsProgramCause e t → IsCauseFor reserved e value
cause_for_value reserved value t NotJson within is_tree cause = absurd cause
cause_for_value reserved value t TooLarge within is_tree cause = absurd cause
cause_for_value reserved value t BadTree within is_tree cause = absurd cause
cause_for_value reserved value t BadScope within is_tree cause = record { tree = t; within = within; is_tree = is_tree; faulty = cause }
cause_for_value reserved value t Memory within is_tree cause = tt

-- of a value that was parsed
pub cause_of_input : (reserved : ℕ) (input : List ℕ) (value : Data) (e : MangleError) → Parses input value → IsCauseFor reserved e value → IsCauseOf reserved e input
cause_of_input reserved input value NotJson parses cause = absurd cause
cause_of_input reserved input value TooLarge parses cause = record { value = value; parses = parses; cause = cause }
cause_of_input reserved input value BadTree parses cause = record { value = value; parses = parses; cause = cause }
cause_of_input reserved input value BadScope parses cause = record { value = value; parses = parses; cause = cause }
cause_of_input reserved input value Memory parses cause = tt

-- of the program in an input
pub cause_of_program : (reserved : ℕ) (input : List ℕ) (t : Tree) (e : MangleError) → IsReadFrom reserved input t → IsProgramCause e t → IsCauseOf reserved e input
cause_of_program reserved input t e read cause = cause_of_input reserved input read.value e read.parses (cause_for_value reserved read.value t e read.within read.is_tree cause)
