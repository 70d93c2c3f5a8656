use Rattle.std.proofs.Common.{◌≡◌, OnErr, OnOk, subst, List, ℕ}
use Rattle.json_text.specs.Json.{string}
use Rattle.oxc_estree.specs.Out.{plain, wrote}
use Rattle.oxc_estree.specs.Refused.{IsCutShort}
use Rattle.oxc_str.specs.JSStr.{js_bytes}
use Rattle.oxc_str.proofs.PointUnits.{units_of_points}
use Rattle.oxc_str.proofs.js_str_estree.JSStrESTree.serialize.Goals as goal

pub returns-in-None-clause-ok : goal.returns-in-None-clause-ok
returns-in-None-clause-ok g c = subst
    (λ (us : List ℕ). OnOk c.serialize-in-None.result (g.S.Serializer.out c.serialize-in-None.new.serializer ≡ wrote (g.S.Serializer.out c.args.serializer.now) (plain (string us))))
    (units_of_points (js_bytes c.args.self.now) c.chars.result c.args.self.now.canonical c.chars.ensures)
    c.serialize-in-None.ensures.ok

pub returns-in-None-clause-refused : goal.returns-in-None-clause-refused
returns-in-None-clause-refused g c = subst
    (λ (us : List ℕ). OnErr c.serialize-in-None.result (IsCutShort (g.S.Serializer.out c.args.serializer.now) (g.S.Serializer.out c.serialize-in-None.new.serializer) (wrote (g.S.Serializer.out c.args.serializer.now) (plain (string us)))))
    (units_of_points (js_bytes c.args.self.now) c.chars.result c.args.self.now.canonical c.chars.ensures)
    c.serialize-in-None.ensures.refused
