-- `btsnoop_header::judge` meets its contract: the case laws of the judgement, test by test; the identification octets compared as one number.
use mathlib.Core.Path.{sym, ap, ◌∙◌}
use Rattle.refusals.specs.Refusals.{given}
use Rattle.btsnoop_rules.specs.Header.{served}
use Rattle.btsnoop_rules.proofs.HeaderLaws.{identified, not_identified, judged-other, judged-version, judged-datalink, judged-code}
use Rattle.btsnoop_header.proofs.judge.Goals as goal

pub returns-then-be_at-ne-IDENTIFICATION_OCTETS : goal.returns-then-be_at-ne-IDENTIFICATION_OCTETS
returns-then-be_at-ne-IDENTIFICATION_OCTETS c =
    let s = c.args.s.now in
    rw c.at.ensures (sym (judged-other s (not_identified s (λ e. c.if-be_at-ne-IDENTIFICATION_OCTETS.true (c.be_at.ensures ∙ e)))))

pub returns-then-be_at-ne-VERSION_NUMBER : goal.returns-then-be_at-ne-VERSION_NUMBER
returns-then-be_at-ne-VERSION_NUMBER c =
    let s = c.args.s.now in
    let same = identified s (λ i. (c.type_inv.s i).fits) (sym c.be_at.ensures ∙ c.if-be_at-ne-IDENTIFICATION_OCTETS.false) in
    rw c.at-then-be_at-ne-VERSION_NUMBER.ensures
    (sym (judged-version s same (λ e. c.if-be_at-ne-VERSION_NUMBER.true (c.be_at-2.ensures ∙ e))))

pub returns-then-served : goal.returns-then-served
returns-then-served c =
    let s = c.args.s.now in
    let same = identified s (λ i. (c.type_inv.s i).fits) (sym c.be_at.ensures ∙ c.if-be_at-ne-IDENTIFICATION_OCTETS.false) in
    let code = c.be_at-datalink.ensures in
    let version = sym c.be_at-2.ensures ∙ c.if-be_at-ne-VERSION_NUMBER.false in
    ap given code
    ∙ sym (judged-code s same version (ap served (sym code) ∙ sym c.served.ensures ∙ c.if-served.true))

pub returns-else-served : goal.returns-else-served
returns-else-served c =
    let s = c.args.s.now in
    let same = identified s (λ i. (c.type_inv.s i).fits) (sym c.be_at.ensures ∙ c.if-be_at-ne-IDENTIFICATION_OCTETS.false) in
    let code = c.be_at-datalink.ensures in
    let version = sym c.be_at-2.ensures ∙ c.if-be_at-ne-VERSION_NUMBER.false in
    rw c.at-else-served.ensures
    (sym (judged-datalink s same version (ap served (sym code) ∙ sym c.served.ensures ∙ c.if-served.false)))
