use Rattle.windows.proofs.Codes.{code-none, code-past, code-many, code-short-m, code-short-e, code-short-bad, code_ok}
use Rattle.windows.proofs.check_window.Goals as goal
use Rattle.windows.proofs.check_window.Goals.{then-w-eq0-via-then-w-eq0, then-w-eq0-via-else-w-eq0+then-len-w}
use Rattle.windows.proofs.check_window.Goals.{then-ms-last-via-then-ms-last, then-ms-last-via-else-ms-last+then-es-last, then-ms-last-via-else-ms-last+else-es-last+then-bads-last}

pub returns-then-w-eq0 : goal.returns-then-w-eq0
returns-then-w-eq0 c =
    elim c.then-w-eq0.branch [
      | then-w-eq0-via-then-w-eq0 w ↦ code-none _ _ _ _ _ w.if-w-eq0.true
      | then-w-eq0-via-else-w-eq0+then-len-w w ↦ code-past _ _ _ _ _ w.if-len-w.true
    ]

pub returns-then-w-gt-MOST_RATES : goal.returns-then-w-gt-MOST_RATES
returns-then-w-gt-MOST_RATES c = code-many _ _ _ _ _ c.if-w-eq0.false c.if-len-w.false c.if-w-gt-MOST_RATES.true

pub returns-then-ms-last : goal.returns-then-ms-last
returns-then-ms-last c =
    let n = c.if-w-eq0.false in
    let f = c.if-len-w.false in
    let m = c.if-w-gt-MOST_RATES.false in
    elim c.then-ms-last.branch [
      | then-ms-last-via-then-ms-last w ↦ code-short-m _ _ _ _ _ n f m w.if-ms-last.true
      | then-ms-last-via-else-ms-last+then-es-last w ↦ code-short-e _ _ _ _ _ n f m w.if-ms-last.false w.if-es-last.true
      | then-ms-last-via-else-ms-last+else-es-last+then-bads-last w ↦
          code-short-bad _ _ _ _ _ n f m w.if-ms-last.false w.if-es-last.false w.if-bads-last.true
    ]

pub returns : goal.returns
returns c =
    code_ok _ _ _ _ _ c.if-w-eq0.false c.if-len-w.false c.if-w-gt-MOST_RATES.false c.if-ms-last.false c.if-es-last.false c.if-bads-last.false
