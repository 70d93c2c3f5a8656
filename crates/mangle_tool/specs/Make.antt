-- What `--make` writes.
use Rattle.std.specs.Prelude.{◌≡◌, ℕ, List, ◌++◌, codes, decimal, length}
use Rattle.mangle_tool.specs.Answer.{IsAnswer}
use Rattle.mangle_tool.specs.Asked.{usual}

-- a line on a made input of so many functions and its answer, by their lengths
abbrev pub lengths_line : (functions input output : ℕ) → List ℕ
lengths_line functions input output =
    codes "functions " ++ (decimal functions ++ (codes ", input bytes " ++ (decimal input ++ (codes ", output bytes " ++ (decimal output ++ codes "\n")))))

-- the line tells of this input and of an answer to it, as it is asked for without words
pub record HasLengths (functions : ℕ) (input line : List ℕ) : Type 0 where
  pub answer : List ℕ
  pub is_answer : IsAnswer usual input answer
  pub told : line ≡ lengths_line functions (length input) (length answer)
