use Rattle.std.proofs.Common.{sym, ◌∙◌}
use Rattle.std.specs.List.{flat_map}
use Rattle.std.proofs.lemmas.Result.{err_from_is_err_and}
use Rattle.gimple_tokens.specs.Tokens.{tokens_of}
use Rattle.gimple_syntax.specs.Passes.{function_at, functions_from, items_read, read_as}
use Rattle.gimple_syntax.proofs.Outlined.{same-fault}
use Rattle.gimple_syntax.proofs.PassLaws.{begun, fewer, goes_on, breaks, is_done, functions-are}
use Rattle.gimple_syntax.proofs.modules.functions_of.Goals as goal

pub items-init : goal.items-init
items-init c = begun (function_at c.args.names.now) c.new-found.result c.new-reader.result (tokens_of c.args.text.now) c.new-found.ensures c.new-reader.ensures.tokens

pub items-smaller : goal.items-smaller
items-smaller c =
    fewer (function_at c.args.names.now) c.items.more c.in_ok-more.more c.items.found c.add_function.new.found c.items.reader c.add_function.new.reader
    c.items-test.true c.in_ok-more.ensures

pub items-preserved : goal.items-preserved
items-preserved c =
    goes_on (function_at c.args.names.now) c.items.more c.in_ok-more.more c.items.found c.add_function.new.found c.items.reader c.add_function.new.reader
    (read_as (flat_map (function_at c.args.names.now)) (items_read c.args.text.now)) c.items-test.true c.in_ok-more.ensures c.items.invariant

pub returns-in_err-more : goal.returns-in_err-more
returns-in_err-more c =
    let p = err_from_is_err_and c.from_residual.result c.from_residual.ensures.1 in
    let all = items_read c.args.text.now in
    rw (p.1, p.2) (same-fault (flat_map (function_at c.args.names.now)) (functions_from c.args.names.now) c.in_err-more.field-0.0 all
    (breaks (function_at c.args.names.now) c.in_err-more.field-0.0 c.items.more c.items.found c.add_function.new.found c.items.reader c.add_function.new.reader
    (read_as (flat_map (function_at c.args.names.now)) all) c.items-test.true c.in_err-more.ensures c.items.invariant))

pub returns : goal.returns
returns c =
    let all = items_read c.args.text.now in
    sym (functions-are c.args.names.now all)
    ∙ is_done (function_at c.args.names.now) c.items.more c.items.found c.items.reader (read_as (flat_map (function_at c.args.names.now)) all) c.items-test.false c.items.invariant
