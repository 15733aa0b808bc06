use Rattle.std.proofs.Common.{◌∙◌, sym}
use Rattle.gimple_tokens.specs.Tokens.{placed, lexeme_of, tokens_from}
use Rattle.gimple_tokens.proofs.Braces.{at_brace, before_brace, without_brace, none-left}
use Rattle.gimple_tokens.proofs.reader.Reader.skip_past_brace.Goals as goal

pub returns-then-is_last : goal.returns-then-is_last
returns-then-is_last c p ts left =
    none-left (sym left ∙ without_brace c.args.self.now (c.is_last.ensures.last c.if-is_last.true) (sym c.is_last.ensures.value ∙ c.if-is_last.true))

pub returns-then-is_sign : goal.returns-then-is_sign
returns-then-is_sign c p ts left = sym (at_brace c.args.self.now c.advance.new.self c.advance.ensures (sym c.is_sign.ensures ∙ c.if-is_sign.true)) ∙ left

pub returns : goal.returns
returns c p ts left =
    let reader = c.self.inside in
    let behind = before_brace (placed (lexeme_of reader.token) reader.line) (tokens_from reader.line 0 reader.rest.now) c.args.self.now c.self.view_is (sym c.is_last.ensures.value ∙ c.if-is_last.false) (sym c.is_sign.ensures ∙ c.if-is_sign.false) in
    c.go_to.ensures ∙ c.past_brace-left.ensures.value p ts (sym behind ∙ left)
