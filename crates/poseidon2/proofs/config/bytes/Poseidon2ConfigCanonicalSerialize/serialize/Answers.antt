use Rattle.std.proofs.Common.{◌≡◌, ◌++◌, map, ap, ap₂, ◌∙◌}
use Rattle.ark_base.specs.Spelling.{word}
use Rattle.ark_base.specs.Digits.{bytes_of_number, bytes_for}
use Rattle.poseidon2.specs.ConfigBytes.{poseidon2_fields_spelling}
use Rattle.ark_sponge.proofs.ConfigBytes.{on_ok, rows_fit, rows_spelled}
use Rattle.poseidon2.proofs.ConfigBytes.{list_fits, list_spelled}
use Rattle.poseidon2.proofs.config.bytes.Poseidon2ConfigCanonicalSerialize.serialize.Goals as goal

pub returns-clause-spelled : goal.returns-clause-spelled
returns-clause-spelled g c =
    let f = g.F.Field in
    let canonical = g.F.Canonical in
    let i = c.self.inside in
    let below = g.met.F.Field.laws.below in
    let rows = rows_fit canonical.view g.F.Valued.value (λ row. row.items) f.MODULUS canonical.has_spelling below in
    let list = list_fits canonical.view g.F.Valued.value f.MODULUS canonical.has_spelling below in
    let known = rw (← c.self.view_is) at c.width-known.ensures.lawful in
    rw (← c.self.view_is)
    (on_ok c.serialize.result (λ h. (
      (
        h.0,
        (
          rows i.first.items h.1.0,
          (
            list i.partial.items h.1.1.0,
            (
              rows i.last.items h.1.1.1.0,
              list i.diagonal.items h.1.1.1.1,
            ),
          ),
        ),
      ),
      known,
    )) c.serialize.ensures.spelled)

pub returns-clause-appended : goal.returns-clause-appended
returns-clause-appended g c =
    let f = g.F.Field in
    let canonical = g.F.Canonical in
    let i = c.self.inside in
    let number = bytes_of_number (bytes_for f.MODULUS_BIT_SIZE) in
    let rows = rows_spelled canonical.view g.F.Valued.value (λ row. row.items) canonical.spelling number
    g.met.F.Field.spelling_is in
    let list = list_spelled canonical.view g.F.Valued.value canonical.spelling number g.met.F.Field.spelling_is in
    let behind = ap₂ ◌++◌ (rows i.last.items) (list i.diagonal.items) in
    let texts = ap₂ ◌++◌ (rows i.first.items) (ap₂ ◌++◌ (list i.partial.items) behind) in
    let view = canonical.view in
    let seen = poseidon2_fields_spelling canonical.spelling (
      i.alpha,
      (
        map (λ row. map view row.items) i.first.items,
        (
          map view i.partial.items,
          (
            map (λ row. map view row.items) i.last.items,
            map view i.diagonal.items,
          ),
        ),
      ),
    ) in
    rw (← c.self.view_is)
    (on_ok {P = c.serialize.new.dest.items ≡ c.args.dest.now.items ++ seen} c.serialize.result
    (λ h. h ∙ ap (λ t. c.args.dest.now.items ++ (word i.alpha ++ t)) texts) c.serialize.ensures.appended)
