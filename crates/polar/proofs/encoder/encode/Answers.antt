-- Past the table the parts are given what they ask for, and what they make is the codeword (EncodeLaws).
use Rattle.std.proofs.Common.{◌∙◌, sym, subst, ap}
use Rattle.refusal.proofs.KindLaws.{left_made}
use Rattle.polar_code.specs.Code.{Code}
use Rattle.polar.specs.Encode.{encode_buffer, codeword_of, Encodable}
use Rattle.polar.proofs.EncodeLaws.{accepted, placing, word_is_whole, whole_word}
use Rattle.polar.proofs.encoder.encode.Goals as goal

pub place_message-requires : goal.place_message-requires
place_message-requires c =
    let input = accepted _ _ _ (sym c.in_ok-check.ensures) in
    placing _ _ _ (subst (λ (code : Code). Encodable code c.args.message.now c.args.codeword.now) (sym c.code.view_is) input)

pub transform_block-requires : goal.transform_block-requires
transform_block-requires c =
    let input = accepted _ _ _ (sym c.in_ok-check.ensures) in (
      word_is_whole _ _ _ (subst (λ (code : Code). Encodable code c.args.message.now c.args.codeword.now) (sym c.code.view_is) input) _ c.place_message.ensures,
      c.products-table.ensures,
    )

pub returns : goal.returns
unfolding encode_buffer
returns c =
    let none = c.in_ok-check.ensures in
    let input = accepted _ _ _ (sym none) in
    record {
      answer = none;
      codeword = whole_word _ _ _ (subst (λ (code : Code). Encodable code c.args.message.now c.args.codeword.now) (sym c.code.view_is) input) _ _ c.place_message.ensures c.transform_block.ensures
          ∙ ap (λ (code : Code). codeword_of code c.args.message.now) c.code.view_is ∙ left_made _ _ none;
    }
