use Rattle.std.proofs.Common.{◌≡◌, ◌∙◌, arith, ap, length, refl}
use Rattle.ark_schemes.specs.Blake2s.{blocks, state_bytes, blake2s_with}
use Rattle.ark_schemes.proofs.Texts.{length-blocks}
use Rattle.test_support.proofs.blake2s.plain_digest.Goals as goal

pub hash_blocks-h-requires-clause-some : goal.hash_blocks-h-requires-clause-some
hash_blocks-h-requires-clause-some c =
    let all : c.deref.result.now ≡ blocks c.args.text.now = c.deref.ensures.value ∙ c.in_ok-blocks.ensures in
    omega (arith, ap length all, length-blocks c.args.text.now)

pub hash_blocks-h-requires-clause-few : goal.hash_blocks-h-requires-clause-few
hash_blocks-h-requires-clause-few c =
    let all : c.deref.result.now ≡ blocks c.args.text.now = c.deref.ensures.value ∙ c.in_ok-blocks.ensures in
    omega (arith, ap length all, length-blocks c.args.text.now)

pub returns : goal.returns
unfolding blake2s_with
returns c =
    let all : c.deref.result.now ≡ blocks c.args.text.now = c.deref.ensures.value ∙ c.in_ok-blocks.ensures in
    c.state_bytes.ensures ∙ ap state_bytes (rw (c.hash_blocks-h.ensures, c.first_state.ensures, all) refl)
