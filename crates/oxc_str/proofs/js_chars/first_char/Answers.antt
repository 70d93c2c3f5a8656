use Rattle.std.proofs.Common.{rules, ◌≡◌, ◌+◌, ◌*◌, ◌%◌, get_or, arith}
use Rattle.oxc_str.proofs.Decoding.{opening}
use Rattle.oxc_str.proofs.js_chars.first_char.Goals as goal

pub returns-then-first-lt-CONT_TAG : goal.returns-then-first-lt-CONT_TAG
returns-then-first-lt-CONT_TAG c =
    let e : c.from_code_point.result ≡ get_or c.args.bytes.now 0 0 = omega arith in
    rw e ((opening _ c.requires.text c.requires.some).one (omega arith))

pub bounds-bytes-1 : goal.bounds-bytes-1
bounds-bytes-1 c =
    let long = (opening _ c.requires.text c.requires.some).two_long (omega arith) in
    search rules

pub returns-then-first-lt-THREE_BYTE_TAG : goal.returns-then-first-lt-THREE_BYTE_TAG
returns-then-first-lt-THREE_BYTE_TAG c =
    let e : c.from_code_point-then-first-lt-THREE_BYTE_TAG.result ≡ get_or c.args.bytes.now 0 0 % 32 * 64 + get_or c.args.bytes.now 1 0 % 64 = omega arith in
    rw e ((opening _ c.requires.text c.requires.some).two (omega arith) (omega arith))

pub bounds-bytes-2 : goal.bounds-bytes-2
bounds-bytes-2 c =
    let long = (opening _ c.requires.text c.requires.some).three_long (omega arith) in
    search rules

pub returns-then-first-lt-FOUR_BYTE_TAG : goal.returns-then-first-lt-FOUR_BYTE_TAG
returns-then-first-lt-FOUR_BYTE_TAG c =
    let e : c.from_code_point-then-first-lt-FOUR_BYTE_TAG.result ≡ get_or c.args.bytes.now 0 0 % 16 * 4096 + get_or c.args.bytes.now 1 0 % 64 * 64 + get_or c.args.bytes.now 2 0 % 64 = omega arith in
    rw e ((opening _ c.requires.text c.requires.some).three (omega arith) (omega arith))

pub bounds-bytes-3 : goal.bounds-bytes-3
bounds-bytes-3 c =
    let long = (opening _ c.requires.text c.requires.some).four_long (omega arith) in
    search rules

pub from_code_point-requires-2 : goal.from_code_point-requires-2
from_code_point-requires-2 c =
    let code = ((opening _ c.requires.text c.requires.some).four (omega arith)).code in
    omega (arith, code)

pub returns : goal.returns
returns c =
    let e : c.from_code_point-2.result ≡ get_or c.args.bytes.now 0 0 % 8 * 262144 + get_or c.args.bytes.now 1 0 % 64 * 4096 + get_or c.args.bytes.now 2 0 % 64 * 64 + get_or c.args.bytes.now 3 0 % 64 = omega arith in
    rw e ((opening _ c.requires.text c.requires.some).four (omega arith))
