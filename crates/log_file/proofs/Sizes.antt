-- The size of a log's file, and what is given of its first entries.
use Rattle.std.proofs.Common.{◌≡◌, ℕ, ◌<◌, ◌≤◌, nat_lt, Bool, true, false, List, Option, Result, Ok, Err, refl, ap, sym}
use Rattle.std.specs.Prelude.{not, unwrap_or}
use Rattle.std.proofs.lemmas.Bool.{le-ltb, lt-ltb}
use Rattle.ark_base.specs.Outcome.{◌>>=◌}
use Rattle.log_file.specs.Faults.{log_size, of_first, only_if}
use Rattle.log_file.specs.declared.fault.Fault.{Fault}
use Rattle.log_file.specs.declared.fault.Fault.TheVariants.{Size}

module _ (file : List ℕ) (named : Option ℕ) (all size : ℕ) (is : log_size file ≡ Ok all)
    (asked : size ≡ unwrap_or named all) where
  pub size-above : all < size → of_first file named Ok ≡ Err Size
  size-above above = rw (is, sym asked, lt-ltb all size above) refl

  pub size-inside : size ≤ all → of_first file named Ok ≡ Ok size
  size-inside inside = rw (is, sym asked, le-ltb all size inside) refl

abbrev fault_in : Result ℕ Fault → Fault
fault_in (Ok n) = Size
fault_in (Err fault) = fault

abbrev held : ℕ → Result ℕ Fault → ℕ
held other (Ok n) = n
held other (Err fault) = other

module _ {A : Type 0} (given : ℕ → Result A Fault) (named : Option ℕ) where
  by_size : (size : Result ℕ Fault) (n : ℕ)
      → (size >>= λ size. only_if (not (nat_lt size (unwrap_or named size))) Size (Ok (unwrap_or named size))) ≡ Ok n
      → (size >>= λ size. only_if (not (nat_lt size (unwrap_or named size))) Size (given (unwrap_or named size)))
      ≡ given n
  by_size (Err fault) n told = absurd (cc)
  by_size (Ok size) n told = go (not (nat_lt size (unwrap_or named size))) (unwrap_or named size) told
    where
      go : (inside : Bool) (m : ℕ) → only_if inside Size (Ok m) ≡ Ok n → only_if inside Size (given m) ≡ given n
      go true m told = ap (λ r. given (held m r)) told
      go false m told = absurd (cc)

  by_fault : (size : Result ℕ Fault) (fault : Fault)
      → (size >>= λ size. only_if (not (nat_lt size (unwrap_or named size))) Size (Ok (unwrap_or named size)))
      ≡ Err fault
      → (size >>= λ size. only_if (not (nat_lt size (unwrap_or named size))) Size (given (unwrap_or named size)))
      ≡ Err fault
  by_fault (Err other) fault told = ap (λ r. Err (fault_in r)) told
  by_fault (Ok size) fault told = go (not (nat_lt size (unwrap_or named size))) (unwrap_or named size) told
    where
      go : (inside : Bool) (m : ℕ) → only_if inside Size (Ok m) ≡ Err fault → only_if inside Size (given m) ≡ Err fault
      go true m told = absurd (cc)
      go false m told = ap (λ r. Err (fault_in r)) told

  -- what is given of a size
  pub given-of : (file : List ℕ) (n : ℕ) → of_first file named Ok ≡ Ok n → of_first file named given ≡ given n
  given-of file n told = by_size (log_size file) n told

  -- a fault before
  pub given-refused : (file : List ℕ) (fault : Fault) → of_first file named Ok ≡ Err fault → of_first file named given
      ≡ Err fault
  given-refused file fault told = by_fault (log_size file) fault told
