-- The words behind the program's name.
use Rattle.std.specs.Prelude.{ℕ, List, [], ◌∷◌, ◌++◌, if◌then◌else◌, Option, Some, None, codes}
use Rattle.std.specs.Str.{bytes_eq}
use Rattle.acp_run.specs.declared.command.Configuration.{Configuration}
use Rattle.acp_run.specs.declared.command.Configuration.TheVariants.{Sha256, Toy}
use Rattle.acp_run.specs.Language.{Language}
use Rattle.acp_run.specs.Sha256.{sha_language}
use Rattle.acp_run.specs.Toy.{toy_language}

-- the configuration that a word names
abbrev pub configuration_named : List ℕ → Option Configuration
configuration_named word =
    if bytes_eq word (codes "sha256") then Some Sha256
    else if bytes_eq word (codes "toy") then Some Toy
    else None

-- the configuration that the words name: one word alone does
abbrev pub configuration_of : List (List ℕ) → Option Configuration
configuration_of [] = None
configuration_of (word ∷ []) = configuration_named word
configuration_of (word ∷ more ∷ words) = None

-- the language of a configuration
abbrev pub language_of : Configuration → Language
language_of Sha256 = sha_language
language_of Toy = toy_language

-- what stands among the faults for words that name no configuration
abbrev pub usage : List ℕ
usage = codes "usage: acp sha256|toy" ++ 10 ∷ []

-- what stands there for a session that is cut short
abbrev pub stop_notice : List ℕ
stop_notice = codes "acp: stopped" ++ 10 ∷ []
