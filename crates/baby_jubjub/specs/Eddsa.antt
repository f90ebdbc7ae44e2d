-- EdDSA over Baby Jubjub with Poseidon, as circomlib's eddsa.js has it (signPoseidon, verifyPoseidon, packSignature).
use Rattle.std.specs.Prelude.{◌≡◌, ℕ, ◌+◌, ◌*◌, ◌%◌, ◌^◌, ◌<◌, ◌≤◌, List, [], ◌∷◌, ◌++◌, take, drop, get_or}
use Rattle.ark_base.specs.Digits.{number_of_bytes, bytes_of_number}
use Rattle.ark_groups.specs.Group.{times}
use Rattle.ark_sponge.specs.Permutation.{Parameters}
use Rattle.ark_sponge.specs.Table.{IsShortOf, ShortParts}
use Rattle.poseidon_grain.specs.Constants.{AreParameters, Instance, instance_of}
use Rattle.ark_poseidon.specs.Circom.{first_permuted}
use Rattle.edwards.specs.Edwards.{Coordinates}
use Rattle.baby_jubjub.specs.declared.signature.Signature.{Signature}
use Rattle.baby_jubjub.specs.declared.signature.SignatureFault.{SignatureFault}
use Rattle.baby_jubjub.specs.declared.signature.SignatureFault.TheVariants.{Point, NotBelowOrder}
use Rattle.baby_jubjub.specs.BabyJubjub.{p, order, curve, base8, IsOnBabyJubjub}
use Rattle.baby_jubjub.specs.Packed.{packed_bytes, IsPackedFault}
use Rattle.baby_jubjub.specs.Points.{coordinates}
use Rattle.baby_jubjub.specs.Values.{scalar_number}

-- Poseidon of five inputs, as circomlib asks the generator of its constants for it: a state of six elements, 8 full
-- rounds and 60 partial ones
abbrev pub poseidon_instance : Instance
poseidon_instance = instance_of p 254 6 8 60 0

-- c are circomlib's parameters of that hash, of a capacity of one element and fifth powers; a permutation is theirs.
pub record RunsPoseidon (c : Parameters) (parts : ShortParts) : Type 0 where
  pub circom : AreParameters poseidon_instance 5 1 5 c
  pub permutes : IsShortOf p c parts

-- the S-box of Poseidon: a power
abbrev pub fifth : ℕ → ℕ → ℕ
fifth alpha x = x ^ alpha % p

-- hm = Poseidon(R.x, R.y, A.x, A.y, message), at parameters of five inputs
unfoldable pub eddsa_challenge : Parameters → Coordinates → Coordinates → ℕ → ℕ
eddsa_challenge c r8 key message =
    get_or (first_permuted p fifth c (r8.x ∷ r8.y ∷ key.x ∷ key.y ∷ message ∷ [])) 0 0

-- A point R and a number S below the order with S Base8 = R + (8 hm) A are a signature of a message by the key A.
pub record IsEddsaSignature (c : Parameters) (key : Coordinates) (message : ℕ) (r8 : Coordinates) (s : ℕ) : Type 0 where
  pub key_on : IsOnBabyJubjub key
  pub r8_on : IsOnBabyJubjub r8
  pub scalar_below : s < order
  pub equation : times curve s base8 ≡ curve.plus r8 (times curve (8 * eddsa_challenge c r8 key message) key)

-- What is made of a nonce r and of a secret k, whose key is k Base8: R = r Base8 and S = r + 8 hm k modulo the order.
pub record IsSignedWith (c : Parameters) (r k message : ℕ) (r8 : Coordinates) (s : ℕ) : Type 0 where
  pub point : r8 ≡ times curve r base8
  pub number : s ≡ (r + 8 * eddsa_challenge c r8 (times curve k base8) message * k) % order

-- ---- as 64 bytes

-- the packed point R, and S, the least byte first
abbrev pub signature_bytes : Signature → List ℕ
signature_bytes g = packed_bytes (coordinates g.r8) ++ bytes_of_number 32 (scalar_number g.s)

-- why 64 bytes are no signature's: the first half is no point's, or else the number in the second is the order or more
abbrev pub IsSignatureFault : List ℕ → SignatureFault → Type 0
IsSignatureFault bytes (Point fault) = IsPackedFault (take 32 bytes) fault
IsSignatureFault bytes NotBelowOrder = order ≤ number_of_bytes (drop 32 bytes)
