-- What a writer holds back.
use Rattle.std.proofs.Common.{◌≡◌, ℕ, zero, suc, List, [], ◌++◌, drop, Option, None, Some, refl, sym, ◌∙◌, ap, append-nil}
use Rattle.std.specs.Io.KnownBytes.{Appends, Keeps, append_known}
use Rattle.acp_run.specs.Streams.{held_back}

drop-none : (n : ℕ) → drop {A = ℕ} n [] ≡ []
drop-none zero = refl
drop-none (suc n) = refl

none-held : (failure : Option ℕ) (buffer : List ℕ) → buffer ≡ [] → held_back failure buffer ≡ []
none-held None buffer e = e
none-held (Some n) buffer e = ap (drop n) e ∙ drop-none n

-- a writer behind an empty buffer holds all
pub keeps_all : (held : Option (List ℕ)) (failure : Option ℕ) (buffer : List ℕ) → buffer ≡ []
    → Keeps (append_known held (held_back failure buffer)) held
keeps_all None failure buffer e = tt
keeps_all (Some xs) failure buffer e = rw (none-held failure buffer e) (sym (append-nil xs))

-- what is written behind an empty buffer is appended
pub appends_unbuffered : (a b : Option (List ℕ)) (x : List ℕ) → Appends a b x
    → Appends (append_known a []) (append_known b []) x
appends_unbuffered None b x h = tt
appends_unbuffered (Some xs) None x h = absurd h
appends_unbuffered (Some xs) (Some ys) x h = append-nil ys ∙ h ∙ ap (λ s. s ++ x) (sym (append-nil xs))
