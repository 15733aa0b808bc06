use Rattle.std.proofs.Common.{◌≡◌, ◌++◌, ◌-◌, ◌+◌, ◌*◌, length, vec_len, ap, ◌∙◌, arith}
use Rattle.std.specs.Prelude.{replicate}
use Rattle.final_link.specs.Stubs.{start_address, stubs}
use Rattle.final_link.specs.Image.{data_address, text_size, headers_with, code_bytes}
use Rattle.final_link.proofs.ImageLaws.{image-is}
use Rattle.final_link.proofs.image.make_image.Goals as goal

pub returns : goal.returns
returns c =
    let code = c.args.code.now in
    let stored = c.args.stored.now in
    let front : 4096 - vec_len c.put_headers.new.out ≡ 4096 - 176 = omega (arith, c.in_ok-put_headers.ensures.len, c.in_ok-out.ensures.len) in
    let behind : c.data_address.result - 0xf000 - vec_len c.extend_from_slice.new.self ≡ data_address code - start_address - text_size code =
    omega (arith, c.data_address.ensures.value, c.data_address.ensures.behind, c.in_ok-pad.ensures.len, c.in_ok-put_stubs.ensures.len, c.in_ok-extend_from_slice.ensures.len) in
    image-is c.args.main c.args.frame c.args.zeroed (vec_len c.extend_from_slice.new.self) (c.data_address.result - 0xf000) code stored
    c.put_headers.new.out.items c.pad.new.out.items c.put_stubs.new.out.items c.extend_from_slice.new.self.items c.pad-2.new.out.items c.extend_from_slice-2.new.self.items
    (c.in_ok-put_headers.ensures.bytes ∙ ap (λ bs. bs ++ headers_with (length stored) (length stored + c.args.zeroed) c.args.frame code) c.in_ok-out.ensures.items)
    (c.in_ok-pad.ensures.bytes ∙ ap (λ k. c.put_headers.new.out.items ++ replicate k 0) front)
    (c.in_ok-put_stubs.ensures.words ∙ ap (λ s. c.pad.new.out.items ++ code_bytes (stubs (s + 16 + 4096 * c.args.frame) s c.args.main)) c.scratch_behind-scratch.ensures.value)
    c.in_ok-extend_from_slice.ensures.items
    c.in_ok-pad-2.ensures.bytes
    c.in_ok-extend_from_slice-2.ensures.items
    behind
