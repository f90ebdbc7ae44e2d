-- Changes that are taken back.
use Rattle.std.proofs.Common.{◌≡◌, Bool, true, false, not, cond, if◌then◌else◌, List, [], ◌∷◌, Option, Some, None, refl, ap, sym, ◌∙◌, subst}
use Rattle.std.proofs.lemmas.Slice.Eq.{bytes_eq-Decides}
use Rattle.std.specs.Str.{bytes_eq}
use Rattle.merkle_map.specs.Kept.{changed_key, giving, Undoes}
use Rattle.merkle_map.specs.Map.{Key, Digest, Entry, HaveSame, value_at, without}
use Rattle.merkle_map.specs.Transition.{ChangeSeen, Puts, Removes, changed_by}
use Rattle.merkle_map.proofs.Entries.{gone}
use Rattle.merkle_map.proofs.Places.{if_true, if_false}

-- other keys have what they had
others-without : (key other : Key) (entries : List Entry) → bytes_eq key other ≡ false
    → value_at other (without key entries) ≡ value_at other entries
others-without key other [] differ = refl
others-without key other (x ∷ xs) differ =
    by_tests (bytes_eq x.key key) (bytes_eq x.key other) refl refl (others-without key other xs differ)
  where
    by_tests : (a b : Bool) → bytes_eq x.key key ≡ a → bytes_eq x.key other ≡ b
        → value_at other (without key xs) ≡ value_at other xs
        → value_at other (cond (not a) (x ∷ without key xs) (without key xs))
        ≡ (if b then Some x.value else value_at other xs)
    by_tests false false p q ih = if_false (bytes_eq x.key other) (Some x.value) (value_at other (without key xs)) q
        ∙ ih
    by_tests false true p q ih = if_true (bytes_eq x.key other) (Some x.value) (value_at other (without key xs)) q
    by_tests true false p q ih = ih
    by_tests true true p q ih =
        let same : key ≡ other = sym ((bytes_eq-Decides x.key key).0 p) ∙ (bytes_eq-Decides x.key other).0 q in
        let yes = (bytes_eq-Decides key other).1 same in absurd cc

others : (change : ChangeSeen) (other : Key) (entries : List Entry) → bytes_eq (changed_key change) other ≡ false
    → value_at other (changed_by change entries) ≡ value_at other entries
others (Puts key value) other entries differ =
    if_false (bytes_eq key other) (Some value) (value_at other (without key entries)) differ
    ∙ others-without key other entries differ
others (Removes key) other entries differ = others-without key other entries differ

key-of-giving : (key : Key) (value : Option Digest) → changed_key (giving key value) ≡ key
key-of-giving key None = refl
key-of-giving key (Some value) = refl

given : (key : Key) (value : Option Digest) (entries : List Entry)
    → value_at key (changed_by (giving key value) entries) ≡ value
given key None entries = gone key entries
given key (Some value) entries =
    if_true (bytes_eq key key) (Some value) (value_at key (without key entries)) ((bytes_eq-Decides key key).1 refl)

-- a change, and then the one that gives its key what it had
pub takes-back : (change : ChangeSeen) (old new : List Entry) → HaveSame new (changed_by change old)
    → Undoes old new (giving (changed_key change) (value_at (changed_key change) old))
takes-back change old new same = λ q. by_key q (bytes_eq (changed_key change) q) refl
  where
    by_key : (q : Key) (b : Bool) → bytes_eq (changed_key change) q ≡ b
        → value_at q (changed_by (giving (changed_key change) (value_at (changed_key change) old)) new) ≡ value_at q old
    by_key q true is =
        let e = (bytes_eq-Decides (changed_key change) q).0 is in
        subst (λ (k : Key). value_at k (changed_by (giving (changed_key change) (value_at (changed_key change) old))
        new)
        ≡ value_at k old) e (given (changed_key change) (value_at (changed_key change) old) new)
    by_key q false is =
        others (giving (changed_key change) (value_at (changed_key change) old)) q new
        (ap (λ (k : Key). bytes_eq k q) (key-of-giving (changed_key change) (value_at (changed_key change) old)) ∙ is)
        ∙ same q ∙ others change q old is
