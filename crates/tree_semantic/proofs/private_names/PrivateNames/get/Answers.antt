use Rattle.std.specs.Prelude.{◌<◌, None, length}
use Rattle.std.proofs.Common.{arith, ◌∙◌}
use Rattle.syntax_sem.specs.ClassId.{number_of}
use Rattle.tree_semantic.specs.Renamed.{name_in}
use Rattle.tree_semantic.proofs.ClassesTold.{row_read}
use Rattle.tree_semantic.proofs.private_names.PrivateNames.get.Goals as goal

pub index-requires : goal.index-requires
index-requires c = omega (arith, c.index-k.ensures.value, c.requires)

pub returns : goal.returns
returns c =
    let inside : c.index-k.result < length c.args.self.now.classes.items = omega (arith, c.index-k.ensures.value, c.requires) in
    c.copied.ensures ∙ c.get.ensures.value
    ∙ row_read (λ m. name_in m c.args.name.now) c.args.self.now.classes.items c.index-k.result (number_of c.args.id) c.index.result.now None inside c.index.ensures c.index-k.ensures.value
