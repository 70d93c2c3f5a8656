use Rattle.class_tables.proofs.Holding.{declares_set, short_names}
use Rattle.class_tables.proofs.declared.declare_in.Goals as goal

pub declare-requires : goal.declare-requires
declare-requires c = short_names c.args.tables.now c.args.class _ _ c.requires.known c.requires.few

pub returns : goal.returns
returns c =
    declares_set c.args.tables.now c.args.class c.declare.new.self c.index-tables-class.result c.args.name.now c.args.node c.requires.known c.in_ok-declare.ensures
