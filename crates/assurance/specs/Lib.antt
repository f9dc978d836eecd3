-- Paper: what happened, without end. Written: what each event writes on it. Meaning: what is said of a list of events. Sent: what a read sends.
-- Life, Run, Complete, Delivered, Causes, ForC, Again: what the demands say of each. Demands: the three demands.
pub mod Paper
pub mod Written
pub mod Meaning
pub mod Sent
pub mod Life
pub mod Run
pub mod Complete
pub mod Delivered
pub mod Causes
pub mod ForC
pub mod Again
pub mod Demands
