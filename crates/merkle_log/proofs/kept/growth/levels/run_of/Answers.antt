use Rattle.std.proofs.Common.{◌≡◌, ◌+◌, ◌<◌, ◌++◌, ℕ, zero, suc, [], get_or, ap, ◌∙◌, arith}
use Rattle.ark_paths.specs.Pair.{Digest}
use Rattle.ark_trees.specs.Rfc6962.{node_hash}
use Rattle.merkle_log.specs.Kept.{stored_front}
use Rattle.merkle_log.specs.Levels.{parent_in}
use Rattle.merkle_log.proofs.kept.growth.levels.run_of.Goals as goal

both : {l r a b : Digest} → l ≡ a → r ≡ b → node_hash l r ≡ node_hash a b
both p q = cc

-- one of eight steps
eight : (P : ℕ → Type 0) → P 0 → P 1 → P 2 → P 3 → P 4 → P 5 → P 6 → P 7 → (step : ℕ) → step < 8 → P step
eight P a b c d e f g h zero low = a
eight P a b c d e f g h (suc zero) low = b
eight P a b c d e f g h (suc (suc zero)) low = c
eight P a b c d e f g h (suc (suc (suc zero))) low = d
eight P a b c d e f g h (suc (suc (suc (suc zero)))) low = e
eight P a b c d e f g h (suc (suc (suc (suc (suc zero))))) low = f
eight P a b c d e f g h (suc (suc (suc (suc (suc (suc zero)))))) low = g
eight P a b c d e f g h (suc (suc (suc (suc (suc (suc (suc zero))))))) low = h
eight P a b c d e f g h (suc (suc (suc (suc (suc (suc (suc (suc n)))))))) low = absurd (omega arith)

pub returns : goal.returns
returns g c = eight (λ step. c.args.first + step < c.args.end → get_or c.nodes.new.digests step []
    ≡ parent_in (stored_front (g.R.Rows.stored c.args.rows.now) ++ c.args.more.now) c.args.level (c.args.first + step))
    (λ below. ap (λ l. get_or l 0 []) c.nodes.ensures
    ∙ both (c.two_below.ensures.left below) (c.two_below.ensures.right below))
    (λ below. ap (λ l. get_or l 1 []) c.nodes.ensures
    ∙ both (c.two_below-2.ensures.left below) (c.two_below-2.ensures.right below))
    (λ below. ap (λ l. get_or l 2 []) c.nodes.ensures
    ∙ both (c.two_below-3.ensures.left below) (c.two_below-3.ensures.right below))
    (λ below. ap (λ l. get_or l 3 []) c.nodes.ensures
    ∙ both (c.two_below-4.ensures.left below) (c.two_below-4.ensures.right below))
    (λ below. ap (λ l. get_or l 4 []) c.nodes.ensures
    ∙ both (c.two_below-5.ensures.left below) (c.two_below-5.ensures.right below))
    (λ below. ap (λ l. get_or l 5 []) c.nodes.ensures
    ∙ both (c.two_below-6.ensures.left below) (c.two_below-6.ensures.right below))
    (λ below. ap (λ l. get_or l 6 []) c.nodes.ensures
    ∙ both (c.two_below-7.ensures.left below) (c.two_below-7.ensures.right below))
    (λ below. ap (λ l. get_or l 7 []) c.nodes.ensures
    ∙ both (c.two_below-8.ensures.left below) (c.two_below-8.ensures.right below))
