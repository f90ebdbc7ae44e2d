-- How the elements of parameters stand in their bytes.
use Rattle.std.specs.Prelude.{ℕ, ◌+◌, ◌*◌, ◌/◌, ◌%◌, ◌^◌, List}
use Rattle.ark_base.specs.Digits.{IsBelow, below_at, bytes_for, bytes_of_number}
use Rattle.ark_base.specs.Reading.{IsCanonical, Reading}
use Rattle.ark_base.specs.Spelling.{made_at}

-- how numbers below a modulus are written, and how they are read
pub record Form : Type 0 where
  pub spells : ℕ → List ℕ
  pub reads : List ℕ → Reading ℕ

-- each number below p has one spelling
abbrev pub HasForm : ℕ → Form → Type 0
HasForm p form = IsCanonical (IsBelow p) form.spells form.reads

-- canonical bytes
abbrev pub own_form : ℕ → ℕ → Form
own_form p bits = record { spells = bytes_of_number (bytes_for bits); reads = below_at p (bytes_for bits) }

-- a number divided by 2^256 modulo p, which is odd: 256 times by half, which is times (p + 1) / 2
unfoldable pub divided : ℕ → ℕ → ℕ
divided p n = n * ((p + 1) / 2) ^ 256 % p

-- n as the number n * 2^256 modulo p, in as many bytes as canonical bytes have
abbrev pub scaled_form : ℕ → ℕ → Form
scaled_form p bits = record {
  spells = λ n. bytes_of_number (bytes_for bits) (n * 2 ^ 256 % p);
  reads = made_at (divided p) (below_at p (bytes_for bits));
}
