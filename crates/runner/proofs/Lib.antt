mod Beginnings
mod Carried
mod OpenJobs
mod Played
