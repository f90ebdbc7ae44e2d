-- Indexes of leaves, and sizes of trees.
use Rattle.std.specs.Prelude.{◌≡◌, ◌==◌, ℕ, zero, suc, ◌+◌, ◌-◌, ◌/◌, ◌%◌, ◌^◌, Bool, nat_lt, ◌&&◌, if◌then◌else◌}

-- whether a bit of a number is set
abbrev pub bit_at : ℕ → ℕ → Bool
bit_at n bit = (n / 2 ^ bit) % 2 == 1

-- the place that differs in bit 0
abbrev pub neighbour : ℕ → ℕ
neighbour i = if bit_at i 0 then i - 1 else i + 1

-- how often a number can be halved before it is below two, at most as often as the first number says
abbrev pub halvings : ℕ → ℕ → ℕ
halvings zero n = 0
halvings (suc most) n = if nat_lt n 2 then 0 else suc (halvings most (n / 2))

-- the logarithm to base two, rounded down
unfoldable pub log2 : ℕ → ℕ
log2 n = halvings n n

-- a power of two above one
abbrev pub IsTreeSize : ℕ → Type 0
IsTreeSize n = (m : ℕ) × (n ≡ 2 ^ suc m)

-- whether a number is one
abbrev pub is_tree_size : ℕ → Bool
is_tree_size n = nat_lt 1 n && (n == 2 ^ log2 n)
