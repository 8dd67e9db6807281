use Rattle.std.proofs.Common.{◌≡◌, ◌+◌, ap, arith}
use Rattle.std.proofs.lemmas.Result.{err_from_is_err_and}
use Rattle.arch.proofs.Walks.{walk_on, walk_out}
use Rattle.lookup.specs.Access.{aste_origin}
use Rattle.lookup.proofs.Checked.{read_at, answer_step}
use Rattle.lookup.proofs.access.walk.Goals as goal

pub returns-in_err-found : goal.returns-in_err-found
returns-in_err-found g c =
    let p = err_from_is_err_and c.from_residual-in_err-found.result c.from_residual-in_err-found.ensures.1 in
    rw (p.1, p.2) (walk_on _ c.in_ok-at.ensures.walked (walk_out _ 4 c.in_err-found.ensures))

pub returns-in_err-first : goal.returns-in_err-first
returns-in_err-first g c =
    let p = err_from_is_err_and c.from_residual-in_err-first.result c.from_residual-in_err-first.ensures.1 in
    rw (p.1, p.2) (walk_on _ c.in_ok-at.ensures.walked (walk_on _ c.in_ok-found.ensures (walk_out _ 2 c.in_err-first.ensures)))

pub returns-in_err-authorized : goal.returns-in_err-authorized
returns-in_err-authorized g c =
    let p = err_from_is_err_and c.from_residual-in_err-authorized.result c.from_residual-in_err-authorized.ensures.1 in
    rw (p.1, p.2) (walk_on _ c.in_ok-at.ensures.walked (walk_on _ c.in_ok-found.ensures (walk_on _ c.in_ok-first.ensures (walk_out _ 1 c.in_err-authorized.ensures))))

pub returns-in_err-asce : goal.returns-in_err-asce
returns-in_err-asce g c =
    let p = err_from_is_err_and c.from_residual-in_err-asce.result c.from_residual-in_err-asce.ensures.1 in
    let where-asce : c.from.result ≡ aste_origin c.in_ok-found.found.second + 8 = omega arith in
    rw (p.1, p.2) (walk_on _ c.in_ok-at.ensures.walked (walk_on _ c.in_ok-found.ensures (walk_on _ c.in_ok-first.ensures (walk_on _ c.in_ok-authorized.ensures (walk_out _ 0 (read_at where-asce c.in_err-asce.ensures))))))

pub returns : goal.returns
returns g c =
    let where-asce : c.from.result ≡ aste_origin c.in_ok-found.found.second + 8 = omega arith in
    (walk_on _ c.in_ok-at.ensures.walked (walk_on _ c.in_ok-found.ensures (walk_on _ c.in_ok-first.ensures (walk_on _ c.in_ok-authorized.ensures (walk_on _ (read_at where-asce c.in_ok-asce.ensures) (answer_step (ap (λ b. record { asce = c.in_ok-asce.asce; fetch_only = b }) c.flag.ensures)))))))
