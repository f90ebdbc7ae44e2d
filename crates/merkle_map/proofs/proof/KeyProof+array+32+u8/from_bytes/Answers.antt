use Rattle.std.proofs.Common.{ℕ, List, Ok, arith, ap, sym, ◌∙◌}
use Rattle.std.proofs.lemmas.List.{map-id}
use Rattle.ark_base.specs.declared.error.Error.{Error}
use Rattle.ark_base.specs.Laws.Steps.{done_injective}
use Rattle.ark_base.specs.Outcome.{◌>>=◌}
use Rattle.ark_base.specs.Reading.{IsBytes}
use Rattle.merkle_map.specs.Bytes.{itself}
use Rattle.merkle_map.specs.KeyProof.{end_seen, proof_seen}
use Rattle.merkle_map.specs.Map.{Digest}
use Rattle.merkle_map.specs.ProofBytes.{proof_of_bytes, siblings_read}
use Rattle.merkle_map.proofs.ProofReading.{proof-only, reads-proof-back}
use Rattle.merkle_map.proofs.proof.KeyProof+array+32+u8.from_bytes.Goals as goal

pub returns-in_err-nothing-clause-reads : goal.returns-in_err-nothing-clause-reads
returns-in_err-nothing-clause-reads g c =
    reads-proof-back (g.H.MapViews.hashes c.args.hasher.now).nothing c.args.bytes.now

pub returns-in_err-end-clause-reads : goal.returns-in_err-end-clause-reads
returns-in_err-end-clause-reads g c =
    reads-proof-back (g.H.MapViews.hashes c.args.hasher.now).nothing c.args.bytes.now

pub returns-in_err-siblings-clause-reads : goal.returns-in_err-siblings-clause-reads
returns-in_err-siblings-clause-reads g c =
    reads-proof-back (g.H.MapViews.hashes c.args.hasher.now).nothing c.args.bytes.now

pub returns-clause-reads : goal.returns-clause-reads
returns-clause-reads g c =
    reads-proof-back (g.H.MapViews.hashes c.args.hasher.now).nothing c.args.bytes.now

pub returns-clause-only : goal.returns-clause-only
returns-clause-only g c =
    let own = (g.H.MapViews.hashes c.args.hasher.now).nothing in
    let nothing = c.in_ok-nothing.nothing in
    let bytes = c.args.bytes.now in
    let end = end_seen c.in_ok-end.end in
    let items = c.in_ok-siblings.siblings.items in
    let small : IsBytes bytes = λ i. omega (arith, c.type_inv.bytes i) in
    proof-only own bytes (proof_seen itself (record { end = c.in_ok-end.end; siblings = c.in_ok-siblings.siblings }))
    small
    (ap (λ (n : Digest). proof_of_bytes n bytes) (done_injective {E = Error} own nothing c.in_ok-nothing.ensures)
    ∙ ap (λ o. o >>= λ end. siblings_read nothing end.1 >>= λ siblings. Ok
    (record { end = end.0; siblings = siblings })) c.in_ok-end.ensures.answer
    ∙ ap (λ (l : List ℕ). siblings_read nothing l >>= λ siblings. Ok (record { end = end; siblings = siblings }))
    (sym c.from_index.ensures)
    ∙ ap (λ o. o >>= λ siblings. Ok (record { end = end; siblings = siblings })) c.in_ok-siblings.ensures.answer
    ∙ ap (λ l. Ok (record { end = end; siblings = l })) (sym (map-id items)))
