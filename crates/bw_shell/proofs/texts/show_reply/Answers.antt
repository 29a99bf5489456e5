use Rattle.bw_shell.proofs.texts.show_reply.Goals as goal

pub returns-in-Value : goal.returns-in-Value
returns-in-Value g c = rw c.in-Value.is c.show_with.ensures

pub returns-in-None : goal.returns-in-None
returns-in-None g c = rw c.in-None.is c.show.ensures

pub returns-in-Inserted : goal.returns-in-Inserted
returns-in-Inserted g c = rw c.in-Inserted.is c.show-in-Inserted.ensures

pub returns-in-Exists : goal.returns-in-Exists
returns-in-Exists g c = rw c.in-Exists.is c.show_with-in-Exists.ensures

pub returns-in-Set : goal.returns-in-Set
returns-in-Set g c = rw c.in-Set.is c.show-in-Set.ensures

pub returns-in-Replaced : goal.returns-in-Replaced
returns-in-Replaced g c = rw c.in-Replaced.is c.show_with-in-Replaced.ensures

pub returns-in-Deleted : goal.returns-in-Deleted
returns-in-Deleted g c = rw c.in-Deleted.is c.show_with-in-Deleted.ensures

pub returns-in-Absent : goal.returns-in-Absent
returns-in-Absent g c = rw c.in-Absent.is c.show-in-Absent.ensures

pub returns-in-Swapped : goal.returns-in-Swapped
returns-in-Swapped g c = rw c.in-Swapped.is c.show-in-Swapped.ensures

pub returns-in-Differs : goal.returns-in-Differs
returns-in-Differs g c = rw c.in-Differs.is c.show_with-in-Differs.ensures

pub returns-in-Page : goal.returns-in-Page
returns-in-Page g c = rw c.in-Page.is (rw (c.as_slice.ensures.pairs, c.as_ref.ensures.value) at c.show_page.ensures)

pub returns-in-BackPage : goal.returns-in-BackPage
returns-in-BackPage g c = rw c.in-BackPage.is (rw (c.as_slice-in-BackPage.ensures.pairs, c.as_ref-in-BackPage.ensures.value) at c.show_back_page.ensures)

pub returns-in-Tidied : goal.returns-in-Tidied
returns-in-Tidied g c = rw c.in-Tidied.is c.show-in-Tidied.ensures

pub returns-in-Full : goal.returns-in-Full
returns-in-Full g c = rw c.in-Full.is c.show-in-Full.ensures
