-- How many keys signed a note: each counts once, whatever names it has.
use Rattle.std.specs.Prelude.{◌≡◌, ℕ, ◌==◌, ◌&&◌, not, Bool, false, if◌then◌else◌, List, [], ◌∷◌, ◌++◌, length}
use Rattle.std.specs.List.{filter, list_any, AllPairs}
use Rattle.std.specs.Str.{bytes_eq}
use Rattle.signed_notes.specs.Keys.{KeyParts}
use Rattle.signed_notes.specs.Notes.{SignatureParts}
use Rattle.signed_notes.specs.Verifying.{is_named}

-- one key: of one algorithm, and of the same bytes; its name is no part of it
abbrev pub is_one_key : KeyParts → KeyParts → Bool
is_one_key a b = a.algorithm == b.algorithm && bytes_eq a.bytes b.bytes

-- a key is one of some keys
abbrev pub lists_key : List KeyParts → KeyParts → Bool
lists_key keys key = list_any (λ one. is_one_key one key) keys

-- keys, each once: those of a list without any that came before
abbrev pub keys_once : List KeyParts → List KeyParts
keys_once [] = []
keys_once (key ∷ more) = key ∷ filter (λ other. not (is_one_key key other)) (keys_once more)

-- No two of the keys are one.
abbrev pub AreOtherKeys : List KeyParts → Type 0
AreOtherKeys keys = AllPairs (λ a b. is_one_key a b ≡ false) keys

-- keys with one more behind them, unless it is one of them
abbrev pub key_added : List KeyParts → KeyParts → List KeyParts
key_added keys key = if lists_key keys key then keys else (keys ++ (key ∷ []))

-- the known keys that signatures name
abbrev pub named_keys : List KeyParts → List SignatureParts → List KeyParts
named_keys known signatures = filter (λ key. list_any (is_named key) signatures) known

-- how many of the known keys signatures name: each counts once
abbrev pub key_count : List KeyParts → List SignatureParts → ℕ
key_count known signatures = length (keys_once (named_keys known signatures))
