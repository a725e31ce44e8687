use Rattle.bucket_table.specs.declared.script.call.Call.TheVariants.{Put, Write, Read, Peek, Remove, Touch, Evict}
use Rattle.bhtable.proofs.Plain.{asked_plainly}
use Rattle.bhtable.proofs.request.plain_call.Goals as goal

pub returns-in-Some : goal.returns-in-Some
returns-in-Some c =
    let front = c.in-Some.ensures.cases in
    asked_plainly (Peek _) c.args.line.now _ front.0 front.1 c.in_ok-lone_number.ensures

pub returns-in-Some-strip_prefix : goal.returns-in-Some-strip_prefix
returns-in-Some-strip_prefix c =
    let front = c.in-Some-strip_prefix.ensures.cases in
    asked_plainly (Read _) c.args.line.now _ front.0 front.1 c.in_ok-lone_number-2.ensures

pub returns-in-Some-strip_prefix-2 : goal.returns-in-Some-strip_prefix-2
returns-in-Some-strip_prefix-2 c =
    let front = c.in-Some-strip_prefix-2.ensures.cases in
    asked_plainly (Put _ _) c.args.line.now _ front.0 front.1 c.in_ok-key.ensures

pub returns-in-Some-strip_prefix-3 : goal.returns-in-Some-strip_prefix-3
returns-in-Some-strip_prefix-3 c =
    let front = c.in-Some-strip_prefix-3.ensures.cases in
    asked_plainly (Write _ _) c.args.line.now _ front.0 front.1 c.in_ok-key-2.ensures

pub returns-in-Some-strip_prefix-4 : goal.returns-in-Some-strip_prefix-4
returns-in-Some-strip_prefix-4 c =
    let front = c.in-Some-strip_prefix-4.ensures.cases in
    asked_plainly (Remove _) c.args.line.now _ front.0 front.1 c.in_ok-lone_number-3.ensures

pub returns-in-Some-strip_prefix-5 : goal.returns-in-Some-strip_prefix-5
returns-in-Some-strip_prefix-5 c =
    let front = c.in-Some-strip_prefix-5.ensures.cases in
    asked_plainly (Touch _) c.args.line.now _ front.0 front.1 c.in_ok-lone_number-4.ensures

pub returns : goal.returns
returns c =
    let front = c.in_ok-key-3.ensures.cases in
    asked_plainly (Evict _) c.args.line.now _ front.0 front.1 c.in_ok-lone_number-5.ensures
