-- What is said of the first entries of a log: a size, and the faults in its place.
use Rattle.std.proofs.Common.{◌≡◌, ℕ, ◌<◌, ◌≤◌, nat_lt, List, Option, Ok, Err, refl, ◌∙◌, arith}
use Rattle.std.proofs.lemmas.Bool.{le-ltb, lt-ltb}
use Rattle.log_file.specs.Faults.{is_older, of_first, only_if}
use Rattle.log_file.specs.declared.fault.Fault.TheVariants.{Index, Size}
use Rattle.log_file.proofs.Sizes.{given-of}

module _ (file : List ℕ) (named : Option ℕ) (size : ℕ) (is : of_first file named Ok ≡ Ok size) where
  -- an index
  pub index-beyond : (index : ℕ) → size ≤ index → of_first file named (λ size. only_if (nat_lt index size) Index
      (Ok size)) ≡ Err Index
  index-beyond index above = given-of (λ size. only_if (nat_lt index size) Index (Ok size)) named file size is
      ∙ rw (le-ltb index size above) refl

  -- an old size
  pub old-none : (old_size : ℕ) → old_size ≡ 0 → of_first file named (λ size. only_if (is_older old_size size) Size
      (Ok size)) ≡ Err Size
  old-none old_size none = given-of (λ size. only_if (is_older old_size size) Size (Ok size)) named file size is
      ∙ rw none refl

  pub old-above : (old_size : ℕ) → size < old_size → of_first file named (λ size. only_if (is_older old_size size) Size
      (Ok size)) ≡ Err Size
  old-above old_size above = given-of (λ size. only_if (is_older old_size size) Size (Ok size)) named file size is
      ∙ rw (lt-ltb 0 old_size (omega (arith, above)), lt-ltb size old_size above) refl
