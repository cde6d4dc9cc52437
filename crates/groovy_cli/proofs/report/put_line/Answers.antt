use Rattle.groovy_cli.proofs.report.put_line.Goals as goal

pub returns-in-Usage-clause-err : goal.returns-in-Usage-clause-err
returns-in-Usage-clause-err g c = rw c.in-Usage.is c.put_all.ensures.err

pub returns-in-Unread-clause-ok : goal.returns-in-Unread-clause-ok
returns-in-Unread-clause-ok g c = rw c.in-Unread.is c.put_about.ensures.ok

pub returns-in-Unread-clause-err : goal.returns-in-Unread-clause-err
returns-in-Unread-clause-err g c = rw c.in-Unread.is c.put_about.ensures.err

pub returns-in-TooLong-clause-ok : goal.returns-in-TooLong-clause-ok
returns-in-TooLong-clause-ok g c = rw c.in-TooLong.is c.put_about-in-TooLong.ensures.ok

pub returns-in-TooLong-clause-err : goal.returns-in-TooLong-clause-err
returns-in-TooLong-clause-err g c = rw c.in-TooLong.is c.put_about-in-TooLong.ensures.err
