-- Editions of ECMA-262. The editions are numbered by the year, from 2015 on.
use Rattle.std.specs.Prelude.{◌≡◌, ◌≢◌, ⊤, ℕ, Option, None, Some, List, [], ◌∷◌, ◌++◌, codes, nat_eq, if◌then◌else◌}
use Rattle.std.specs.Cmp.Lexicographic.{pointwise}
use Rattle.std.specs.Str.{str_to_ascii_lowercase}
use Rattle.syntax_lex.specs.declared.es_target.ESTarget.{ESTarget}
use Rattle.syntax_lex.specs.declared.es_target.ESTarget.TheVariants.{ES2015, ES2016, ES2017, ES2018, ES2019, ES2020, ES2021, ES2022, ES2023, ES2024, ES2025, ES2026, ESNext}
use Rattle.syntax_lex.specs.declared.es_target.TargetError.{TargetError}
use Rattle.syntax_lex.specs.declared.es_target.TargetError.TheVariants.{Es5, Invalid, Memory}

abbrev pub targets : List ESTarget
targets =
    ES2015 ∷ ES2016 ∷ ES2017 ∷ ES2018 ∷ ES2019 ∷ ES2020 ∷ ES2021 ∷ ES2022 ∷ ES2023 ∷ ES2024 ∷ ES2025 ∷ ES2026 ∷ ESNext ∷ []

-- the word for an edition
abbrev pub word_of : ESTarget → List ℕ
word_of ES2015 = codes "es2015"
word_of ES2016 = codes "es2016"
word_of ES2017 = codes "es2017"
word_of ES2018 = codes "es2018"
word_of ES2019 = codes "es2019"
word_of ES2020 = codes "es2020"
word_of ES2021 = codes "es2021"
word_of ES2022 = codes "es2022"
word_of ES2023 = codes "es2023"
word_of ES2024 = codes "es2024"
word_of ES2025 = codes "es2025"
word_of ES2026 = codes "es2026"
word_of ESNext = codes "esnext"

-- the year, and one behind all for the edition to come
abbrev pub edition_of : ESTarget → ℕ
edition_of ES2015 = 2015
edition_of ES2016 = 2016
edition_of ES2017 = 2017
edition_of ES2018 = 2018
edition_of ES2019 = 2019
edition_of ES2020 = 2020
edition_of ES2021 = 2021
edition_of ES2022 = 2022
edition_of ES2023 = 2023
edition_of ES2024 = 2024
edition_of ES2025 = 2025
edition_of ES2026 = 2026
edition_of ESNext = 2027

-- the first of these editions that a word in lower case names
abbrev pub target_among : List ESTarget → List ℕ → Option ESTarget
target_among [] word = None
target_among (target ∷ others) word = if pointwise nat_eq word (word_of target) then Some target else target_among others word

-- the edition that a word in lower case names; the first one has another name too
unfoldable pub target_of : List ℕ → Option ESTarget
target_of word = if pointwise nat_eq word (codes "es6") then Some ES2015 else target_among targets word

-- what is said of a word that names no edition
abbrev pub IsFault : List ℕ → TargetError → Type 0
IsFault word Es5 = str_to_ascii_lowercase word ≡ codes "es5"
IsFault word (Invalid given) =
    (given ≡ word) × (target_of (str_to_ascii_lowercase word) ≡ None) × (str_to_ascii_lowercase word ≢ codes "es5")
IsFault word Memory = ⊤

abbrev pub fault_text : TargetError → List ℕ
fault_text Es5 = codes "ES5 is not yet supported."
fault_text (Invalid word) = codes "Invalid target \"" ++ word ++ codes "\"."
fault_text Memory = codes "out of memory"
