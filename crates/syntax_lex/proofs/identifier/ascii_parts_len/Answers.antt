use Rattle.syntax_lex.proofs.Blocks.{parts_longer, parts_more}
use Rattle.syntax_lex.proofs.identifier.ascii_parts_len.Goals as goal

pub loop-len-preserved : goal.loop-len-preserved
loop-len-preserved c =
    let block = c.begins_with_8_parts.ensures c.loop-len-test.true in (
      parts_longer c.args.bytes.now c.loop-len.len 8 c.loop-len.invariant.0 block,
      parts_more c.args.bytes.now c.loop-len.len 8 c.loop-len.invariant.1 block,
    )

pub returns-then-begins_with_4_parts-clause-parts : goal.returns-then-begins_with_4_parts-clause-parts
returns-then-begins_with_4_parts-clause-parts c =
    parts_more c.args.bytes.now c.loop-len.len 4 c.loop-len.invariant.1 (c.begins_with_4_parts.ensures c.if-begins_with_4_parts.true)
