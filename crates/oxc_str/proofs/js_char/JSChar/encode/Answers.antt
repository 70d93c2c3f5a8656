use Rattle.std.proofs.Common.{arith}
use Rattle.oxc_str.proofs.CodePoints.{two, three, four}
use Rattle.oxc_str.proofs.js_char.JSChar.encode.Goals as goal

pub returns-then-value-le-TWO_BYTE_CODE_POINT_MAX-clause-bytes :
    goal.returns-then-value-le-TWO_BYTE_CODE_POINT_MAX-clause-bytes
returns-then-value-le-TWO_BYTE_CODE_POINT_MAX-clause-bytes c =
    let bytes = two c.self.inside.0 (omega arith) (omega arith) in
    cc (bytes, c.continuation.ensures, c.self.view_is)

pub returns-then-value-le-THREE_BYTE_CODE_POINT_MAX-clause-bytes :
    goal.returns-then-value-le-THREE_BYTE_CODE_POINT_MAX-clause-bytes
returns-then-value-le-THREE_BYTE_CODE_POINT_MAX-clause-bytes c =
    let bytes = three c.self.inside.0 (omega arith) (omega arith) in
    cc (
      bytes,
      c.continuation-then-value-le-THREE_BYTE_CODE_POINT_MAX.ensures,
      c.continuation-then-value-le-THREE_BYTE_CODE_POINT_MAX-2.ensures,
      c.self.view_is,
    )

pub returns-else-value-le-THREE_BYTE_CODE_POINT_MAX-clause-bytes :
    goal.returns-else-value-le-THREE_BYTE_CODE_POINT_MAX-clause-bytes
returns-else-value-le-THREE_BYTE_CODE_POINT_MAX-clause-bytes c =
    let bytes = four c.self.inside.0 (omega arith) in
    cc (
      bytes,
      c.continuation-second.ensures,
      c.continuation-else-value-le-THREE_BYTE_CODE_POINT_MAX.ensures,
      c.continuation-else-value-le-THREE_BYTE_CODE_POINT_MAX-2.ensures,
      c.self.view_is,
    )
