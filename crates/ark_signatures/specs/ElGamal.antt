-- ElGamal encryption over a group.
use Rattle.std.specs.Prelude.{ℕ}
use Rattle.ark_groups.specs.Group.{Group, times}

-- the ciphertext of a message under a public key: r times the generator, and the message plus r times the key
abbrev pub encrypted : {G : Type 0} → Group G → G → G → G → ℕ → G × G
encrypted g generator key message r = (times g r generator, g.plus message (times g r key))

-- what a secret key decrypts: the second part less secret times the first
abbrev pub decrypted : {G : Type 0} → Group G → ℕ → G × G → G
decrypted g secret ciphertext = g.plus ciphertext.1 (g.opposite (times g secret ciphertext.0))
