use Rattle.machine_runs.proofs.driving.simulate_observed.Goals as goal

pub returns-in-Msi : goal.returns-in-Msi
returns-in-Msi g c = rw c.in-Msi.is c.run_to_the_end.ensures

pub returns-in-Mesi : goal.returns-in-Mesi
returns-in-Mesi g c = rw c.in-Mesi.is c.run_to_the_end-in-Mesi.ensures

pub returns-in-Moesi : goal.returns-in-Moesi
returns-in-Moesi g c = rw c.in-Moesi.is c.run_to_the_end-in-Moesi.ensures

pub returns-in-Mosi : goal.returns-in-Mosi
returns-in-Mosi g c = rw c.in-Mosi.is c.run_to_the_end-in-Mosi.ensures
